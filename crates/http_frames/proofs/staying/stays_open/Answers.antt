use Rattle.std.proofs.Common.{ℕ, List, length, take, refl, sym, ◌∙◌, subst, ap}
use Rattle.http_frames.specs.declared.replies.ReplyHeadStep.TheVariants.{Whole, Open, Bad}
use Rattle.http_frames.specs.FieldSteps.{AreWithin, pairs_of}
use Rattle.http_frames.specs.ReplySteps.{IsReplyHeadStep}
use Rattle.http_frames.specs.Staying.{stays_behind}
use Rattle.http_frames.proofs.StayOpenLemmas.{fields_within, by_spans, none_open, none_bad, some_whole}
use Rattle.http_frames.proofs.staying.stays_open.Goals as goal

pub stays_behind-requires : goal.stays_behind-requires
stays_behind-requires c =
    let headers = c.read_reply_head.new.headers in
    let spans = c.in-Whole.spans in
    subst (λ (t : List ℕ). AreWithin (length t) (take spans.headers headers)) (sym c.front-there.ensures)
    (fields_within c.args.limits c.args.text.now headers spans
    (subst (λ (t : List ℕ). IsReplyHeadStep t headers (Whole spans)) c.front-there.ensures c.in-Whole.ensures))

pub returns-in-Open : goal.returns-in-Open
returns-in-Open c =
    let headers = c.read_reply_head.new.headers in
    let step = subst (λ (t : List ℕ). IsReplyHeadStep t headers Open) c.front-there.ensures c.in-Open.ensures in
    record {
      told = λ h rest has. absurd (none_open c.args.limits c.args.text.now headers step h rest has);
      none = λ none. refl;
    }

pub returns-in-Bad : goal.returns-in-Bad
returns-in-Bad c =
    let headers = c.read_reply_head.new.headers in
    let step = subst (λ (t : List ℕ). IsReplyHeadStep t headers Bad) c.front-there.ensures c.in-Bad.ensures in
    record {
      told = λ h rest has. absurd (none_bad c.args.limits c.args.text.now headers step h rest has);
      none = λ none. refl;
    }

pub returns-in-Whole : goal.returns-in-Whole
returns-in-Whole c =
    let headers = c.read_reply_head.new.headers in
    let spans = c.in-Whole.spans in
    let text = c.args.text.now in
    let limits = c.args.limits in
    let step = subst (λ (t : List ℕ). IsReplyHeadStep t headers (Whole spans)) c.front-there.ensures c.in-Whole.ensures in
    record {
      told = λ h rest has. c.stays_behind.ensures
          ∙ ap (λ (t : List ℕ). stays_behind limits spans.version spans.code (pairs_of t (take spans.headers headers))) c.front-there.ensures
          ∙ by_spans limits text headers spans step h rest has;
      none = λ none. absurd (some_whole limits text headers spans step none);
    }

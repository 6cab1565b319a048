use Rattle.grid_play.proofs.OneTalkLemmas.{crews_ascend, one_talk, talks_keep_numbers}
use Rattle.grid_play.proofs.laws.one_talk.Goals as goal

pub returns : goal.returns
returns c = record {
  one = one_talk (record {
    text = c.a_text_is_read_one_way.ensures;
    both = c.a_text_is_refused_one_way.ensures.read;
    bodies = c.bodies_give_one_answer.ensures;
    registrations = c.registrations_give_one_answer.ensures;
    beats = c.beats_give_one_answer.ensures;
    replies = c.replies_say_one_thing.ensures;
    connection = c.one_reading.ensures.connection;
  }) c.conversations_find_spent_last.ensures;
  numbers = talks_keep_numbers;
  crews = crews_ascend;
}

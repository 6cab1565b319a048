mod MoveLemmas
mod StandLemmas
mod HandLemmas
mod ReplyLemmas
mod MemberLemmas
mod QuitLemmas

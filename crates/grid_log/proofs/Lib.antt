mod StreamLemmas
mod SumLemmas
mod LineLemmas
mod LogLemmas
mod AsciiNames
mod FollowLemmas
mod JoinLemmas

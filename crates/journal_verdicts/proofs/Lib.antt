mod CheckLemmas
mod VerdictLemmas

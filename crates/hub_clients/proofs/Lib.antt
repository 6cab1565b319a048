mod BeatLemmas

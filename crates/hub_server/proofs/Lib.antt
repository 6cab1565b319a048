mod CrowdLemmas
mod RunLemmas

use Rattle.hub_tellers.proofs.StartLemmas.{late_told, gone_told, duplicate_told, mismatch_told, unbound_lack}
use Rattle.hub_tellers.proofs.starts.told_unkept.Goals as goal

pub returns-in-Bound : goal.returns-in-Bound
returns-in-Bound c = λ capabilities reservation is_of config history at know answered. c.untold.ensures _

pub returns-in-Late : goal.returns-in-Late
returns-in-Late c = λ capabilities reservation is_of. late_told c.calls_make.ensures _ _ reservation _ is_of _ capabilities _ _ _ _ _ _ c.in-Late.is c.told_failed.ensures

pub returns-in-NodeGone : goal.returns-in-NodeGone
returns-in-NodeGone c = λ capabilities reservation is_of. gone_told c.calls_make.ensures _ _ reservation _ is_of _ capabilities _ _ _ _ _ _ c.in-NodeGone.is c.told_failed-in-NodeGone.ensures

pub returns-in-Duplicate : goal.returns-in-Duplicate
returns-in-Duplicate c = λ capabilities reservation is_of. duplicate_told c.calls_make.ensures _ _ reservation _ is_of _ capabilities _ _ _ _ _ _ c.in-Duplicate.is c.told_failed-in-Duplicate.ensures

pub returns-in-Mismatch : goal.returns-in-Mismatch
returns-in-Mismatch c = λ capabilities reservation is_of. mismatch_told c.calls_make.ensures _ _ reservation _ is_of _ capabilities _ _ _ _ _ _ c.in-Mismatch.is c.told_failed-in-Mismatch.ensures

pub returns-in-Memory : goal.returns-in-Memory
returns-in-Memory c = λ capabilities reservation is_of. unbound_lack c.calls_make.ensures _ _ reservation _ is_of _ capabilities _ _ _ _ _ _ c.in-Memory.is

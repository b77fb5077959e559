use Rattle.std.proofs.Common.{ltb, ltb-true, ltb-false, rules}
use Rattle.std.proofs.lemmas.List.Sorted.{IsPartitionPoint-from_clause, IsPartitionedBy-ltb}
use Rattle.exit_table.specs.declared.tables.SiteRow.{SiteRow}
use Rattle.a64_run.proofs.text.sites_before.Goals as goal

pub returns : goal.returns
returns c =
    let parted = IsPartitionedBy-ltb (λ (row : SiteRow). row.pc) _ c.args.pc c.requires in
    let point = IsPartitionPoint-from_clause (λ (row : SiteRow). ltb row.pc c.args.pc) _ _ c.partition_point.ensures.partitioned parted
    (λ a r q k. search rules) in
    (λ k d least lt. ltb-true _ _ (point.0 k d least lt), λ k d le lt. ltb-false _ _ (point.1 k d le lt))

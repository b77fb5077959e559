-- The site at a byte stands where halving led, or nowhere.
use Rattle.std.proofs.Common.{◌≡◌, ◌∙◌, sym, ap, arith, get_or}
use Rattle.std.proofs.lemmas.Option.{get_or_from_slice_get, slice_get-get_or}
use Rattle.exit_table.specs.declared.tables.SiteRow.{SiteRow}
use Rattle.a64_run.proofs.Sites.{none_there, some_there}
use Rattle.a64_run.proofs.text.place_of.Goals as goal
use Rattle.a64_run.proofs.text.place_of.Goals.{else-at-rows-via-then-at-rows+else-from-pc, else-at-rows-via-else-at-rows}

pub returns-then-from-pc-clause-some : goal.returns-then-from-pc-clause-some
returns-then-from-pc-clause-some c = λ row there.
    some_there c.args.pc c.sites_before-at.result c.args.rows.now row c.sites_before-at.ensures.0 there
    (ap (λ (r : SiteRow). r.pc) (sym (get_or_from_slice_get c.args.rows.now c.sites_before-at.result row c.index-rows-at.result there)) ∙ sym c.from.ensures
    ∙ c.if-from-pc.true)

pub returns-else-at-rows-clause-none : goal.returns-else-at-rows-clause-none
returns-else-at-rows-clause-none c =
    none_there c.args.pc c.sites_before-at.result c.args.rows.now c.requires c.sites_before-at.ensures.0 c.sites_before-at.ensures.1
    (λ d lt is. elim c.else-at-rows.branch [
      | else-at-rows-via-then-at-rows+else-from-pc w ↦
          let same : get_or c.args.rows.now c.sites_before-at.result w.index-rows-at.result ≡ get_or c.args.rows.now c.sites_before-at.result d =
          get_or_from_slice_get c.args.rows.now c.sites_before-at.result _ w.index-rows-at.result
          (slice_get-get_or c.args.rows.now c.sites_before-at.result d lt) in
          absurd (w.if-from-pc.false (w.from.ensures ∙ ap (λ (r : SiteRow). r.pc) same ∙ is))
      | else-at-rows-via-else-at-rows w ↦ absurd (omega (arith, w.if-at-rows.false, lt))
    ])

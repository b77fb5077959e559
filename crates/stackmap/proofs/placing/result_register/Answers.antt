use Rattle.std.proofs.Common.{◌≡◌, ◌∙◌, Bool, true, subst, sym}
use Rattle.b3_ir.specs.declared.value.Stackmap.{Stackmap}
use Rattle.stackmap.specs.Registers.{has_result}
use Rattle.stackmap.specs.Rules.{HasRegisters, MayResult}
use Rattle.stackmap.proofs.Placed.{result_is_some, same_map}
use Rattle.stackmap.proofs.PlacedApart.{places_obey}
use Rattle.stackmap.proofs.placing.result_register.Goals as goal

pub returns-then-not-has_result-clause-apart : goal.returns-then-not-has_result-clause-apart
returns-then-not-has_result-clause-apart c map carries = places_obey c.args.value.now map carries c.requires

pub returns-in-Map-clause-apart : goal.returns-in-Map-clause-apart
returns-in-Map-clause-apart c map carries = places_obey c.args.value.now map carries c.requires

pub returns-in-Map-clause-no_result : goal.returns-in-Map-clause-no_result
returns-in-Map-clause-no_result c =
    let typed : has_result c.args.value.now ≡ true = sym c.has_result.ensures ∙ c.if-not-has_result.false in
    let same = same_map c.args.value.now.body c.in-Map.map _ c.in-Map.is c.requires.carries in
    let enough = subst (λ (b : Bool). HasRegisters b c.in-Map.map) typed
    (subst (λ (m : Stackmap). HasRegisters (has_result c.args.value.now) m) same c.requires.enough) in
    let may = subst (λ (m : Stackmap). MayResult m.result) same (c.requires.constraints.result typed) in
    (λ none. absurd (result_is_some c.in-Map.map enough may (sym c.placed_result.ensures ∙ none)), λ untyped. absurd (cc))

-- The procedure of the name is one, and its frame stands at its place.
use Rattle.std.proofs.Common.{◌≡◌, Bool, true, false, refl}
use Rattle.std.proofs.lemmas.Option.{slice_get_within}
use Rattle.a64_run.proofs.Named.{named_there, not_misplaced}
use Rattle.a64_run.proofs.placement.begins.Goals as goal

differs : (b : Bool) → b ≡ false → b ≡ true → ⊥
differs b is_false is_true = cc

pub returns-then-may_begin-clause-ok : goal.returns-then-may_begin-clause-ok
returns-then-may_begin-clause-ok c =
    let symbol = c.in-Some.ensures.some.0 in (
      symbol,
      c.get.result.now,
      c.in-Some.ensures.some.1,
      c.get.ensures,
      record {
        procedure = record { place = c.in-Some.k; symbol_there = c.in-Some.ensures.some.1; frame_there = c.get.ensures; named = c.in-Some.ensures.some.2 };
        places = (c.may_begin.ensures symbol).0 c.if-may_begin.true;
      },
    )

pub returns-then-may_begin-clause-there : goal.returns-then-may_begin-clause-there
returns-then-may_begin-clause-there c = slice_get_within c.args.object.now.tables.frames c.in-Some.k c.get.result.now c.get.ensures

pub returns-then-may_begin-clause-named : goal.returns-then-may_begin-clause-named
returns-then-may_begin-clause-named c = slice_get_within c.args.object.now.symbols c.in-Some.k c.in-Some.ensures.some.0 c.in-Some.ensures.some.1

pub returns-then-may_begin-clause-no_procedure : goal.returns-then-may_begin-clause-no_procedure
returns-then-may_begin-clause-no_procedure c =
    (λ e. absurd cc, λ none. absurd (none (named_there c.args.object.now.symbols c.in-Some.k c.in-Some.ensures.some.0 c.args.name.now c.in-Some.ensures.some.1 c.in-Some.ensures.some.2)))

pub returns-then-may_begin-clause-placement : goal.returns-then-may_begin-clause-placement
returns-then-may_begin-clause-placement c = (
  λ e. absurd cc,
  λ lost. absurd (not_misplaced c.args.object.now c.args.name.now _ c.in-Some.k c.in-Some.ensures.some.0 c.get.result.now c.requires c.in-Some.ensures.some.1 c.in-Some.ensures.some.2 c.get.ensures
      (λ any. (c.may_begin.ensures any).0 c.if-may_begin.true) lost),
)

pub returns-else-may_begin-clause-no_procedure : goal.returns-else-may_begin-clause-no_procedure
returns-else-may_begin-clause-no_procedure c =
    (λ e. absurd cc, λ none. absurd (none (named_there c.args.object.now.symbols c.in-Some.k c.in-Some.ensures.some.0 c.args.name.now c.in-Some.ensures.some.1 c.in-Some.ensures.some.2)))

pub returns-else-may_begin-clause-placement : goal.returns-else-may_begin-clause-placement
returns-else-may_begin-clause-placement c = (
  λ e. record {
    symbol = c.in-Some.ensures.some.0;
    frame = c.get.result.now;
    procedure = record { place = c.in-Some.k; symbol_there = c.in-Some.ensures.some.1; frame_there = c.get.ensures; named = c.in-Some.ensures.some.2 };
    misplaced = λ places. differs c.may_begin.result c.if-may_begin.false ((c.may_begin.ensures c.in-Some.ensures.some.0).1 places);
  },
  λ lost. refl,
)

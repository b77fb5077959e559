-- Each procedure keeps itself, and what keeps a procedure that keeps another keeps that one.
use Rattle.std.proofs.Common.{◌≡◌, ◌≢◌, true, refl, sym, ap, ◌∙◌, subst}
use Rattle.b3_base.specs.Observed.{Observation}
use Rattle.b3_base.specs.declared.observation.Status.TheVariants.{Undefined}
use Rattle.b3_ir.specs.Procedure.{Procedure}
use Rattle.b3_ir.specs.declared.opcode.Kind.{Kind}
use Rattle.b3_ir.specs.declared.value.Value.{Value}
use Rattle.b3_meaning.specs.Keeps.{HasReturnLike, IsLike, KeepsItself, KeepsThrough, is_outward}
use Rattle.b3_meaning.specs.Roles.{role_of}
use Rattle.b3_meaning.specs.Run.{b3_run}

pub keeps_itself : KeepsItself
keeps_itself p = record {
  name = refl;
  slots = refl;
  returns = λ block place w stands is. record { block = block; place = place; value = w; stands = stands; is_return = is; types = refl };
  runs = λ start answers n ranged each defined. refl;
  outward = λ id w named acts. (w, named, record { kind = refl; ty = refl; body = refl; types = refl });
}

-- a Return like one that is like a third is like the third
return_through : (p q r : Procedure) (w : Value) (middle : HasReturnLike q r w) → HasReturnLike p q middle.value → HasReturnLike p r w
return_through p q r w middle last = record {
  block = last.block;
  place = last.place;
  value = last.value;
  stands = last.stands;
  is_return = last.is_return;
  types = middle.types ∙ last.types;
}

like_through : (p q r : Procedure) (u v w : Value) → IsLike p u q v → IsLike q v r w → IsLike p u r w
like_through p q r u v w low high = record {
  kind = high.kind ∙ low.kind;
  ty = high.ty ∙ low.ty;
  body = high.body ∙ low.body;
  types = high.types ∙ low.types;
}

-- a run that is equal to one that is not undefined isn't undefined
defined_too : (x y : Observation) → y ≡ x → x.status ≢ Undefined → y.status ≢ Undefined
defined_too x y same defined is = defined (ap (λ (seen : Observation). seen.status) (sym same) ∙ is)

-- and a kind that is equal to one that acts on the outside does so
acts_too : (a b : Kind) → b ≡ a → is_outward (role_of b.opcode) b.traps ≡ true → is_outward (role_of a.opcode) a.traps ≡ true
acts_too a b same acts = subst (λ (kind : Kind). is_outward (role_of kind.opcode) kind.traps ≡ true) same acts

pub keeps_through : KeepsThrough
keeps_through p q r low high = record {
  name = high.name ∙ low.name;
  slots = high.slots ∙ low.slots;
  returns = λ block place w stands is.
      let middle = high.returns block place w stands is in
      return_through p q r w middle (low.returns middle.block middle.place middle.value middle.stands middle.is_return);
  runs = λ start answers n ranged each defined.
      let first = low.runs start answers n ranged each defined in
      high.runs start answers n ranged each (defined_too (b3_run p start answers n) (b3_run q start answers n) first defined) ∙ first;
  outward = λ id w named acts.
      let middle = high.outward id w named acts in
      let last = low.outward id middle.0 middle.1 (acts_too middle.0.kind w.kind middle.2.kind acts) in
      (last.0, last.1, like_through p q r last.0 middle.0 w last.2 middle.2);
}

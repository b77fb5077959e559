use Rattle.std.proofs.Common.{◌≡◌, ◌↔◌, Bool, IsTrue, ap, subst, sym}
use Rattle.b3_ir.specs.declared.opcode.Opcode.TheVariants.{Patchpoint}
use Rattle.b3_ir.specs.declared.value.Body.TheVariants.{Map}
use Rattle.b3_ir.specs.declared.value.Stackmap.{Stackmap}
use Rattle.b3_ir.specs.declared.value.Value.{Value}
use Rattle.stackmap.specs.Registers.{stackmap_in}
use Rattle.stackmap.proofs.Placed.{same_map}
use Rattle.b3_rules.specs.Rules.{HasSize, HasSizes}
use Rattle.b3_rules.proofs.sites.sizes_keep.Goals as goal

of_patchpoint : (v : Value) (map : Stackmap) (t : Bool) → v.kind.opcode ≡ Patchpoint → v.body ≡ Map map → IsTrue t ↔ HasSize map → IsTrue t ↔ HasSizes v
of_patchpoint v map t is has_map told = (
  (λ yes. ((λ call. absurd (cc)), (λ _ other carries. subst HasSize (sym (same_map v.body map other has_map carries)) (told.0 yes)))),
  (λ sizes. told.1 (sizes.1 is map (ap stackmap_in has_map))),
)

pub returns-in-Map : goal.returns-in-Map
returns-in-Map c = of_patchpoint c.args.value.now c.in-Map.map c.has_size.result c.in-Patchpoint.is c.in-Map.is c.has_size.ensures

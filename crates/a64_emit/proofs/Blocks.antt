-- The items of a block do what the block does.
use Rattle.std.proofs.Common.{◌≡◌, ℕ, suc, ◌+◌, ◌^◌, ◌<◌, ◌≤◌, List, [], ◌∷◌, ◌++◌, Some, None, refl, sym, ap, ◌∙◌, subst, arith, length, length-append, append_assoc}
use Rattle.std.specs.Prelude.{All, slice_get}
use Rattle.std.specs.List.{flat_map}
use Rattle.b3_base.specs.Ranged.{IsRangedAnswer}
use Rattle.b3_base.specs.declared.observation.Status.{Status}
use Rattle.std.proofs.lemmas.Option.{get_or_from_slice_get}
use Rattle.a64_inst.specs.declared.item.Item.{Item}
use Rattle.a64_inst.specs.declared.item.Item.TheVariants.{Label}
use Rattle.air_ir.specs.Blocks as air
use Rattle.air_ir.specs.Meaning.{Over, meaning}
use Rattle.air_ir.specs.Steps.{Goes, Meaning, Outcome, State, Undefined, go_on, step, steps}
use Rattle.air_ir.specs.declared.procedure.AirBlock.{AirBlock}
use Rattle.air_ir.specs.declared.procedure.AirInst.{AirInst}
use Rattle.air_frame.specs.Frames.{IsFrameOf}
use Rattle.a64_layout.specs.Layout.{place, position_of}
use Rattle.a64_layout.specs.Machine.{Machine}
use Rattle.a64_layout.proofs.Least.{place_mono}
use Rattle.a64_emit.specs.Code.{inst_items, insts_items, labels_of, marks_of}
use Rattle.a64_emit.specs.Emitted.{CarriesOut, LeadsUnlessLost, Log, log_of}
use Rattle.a64_emit.specs.Made.{inst_sites}
use Rattle.a64_emit.specs.Related.{IsRelated}
use Rattle.a64_emit.specs.Setting.{IsSet, Setting}
use Rattle.a64_emit.proofs.Branching.{alike_related, label_runs}
use Rattle.a64_emit.proofs.Endings.{Ends}
use Rattle.a64_emit.proofs.Exits.{HaveOwn, own_nearer}
use Rattle.a64_emit.proofs.Inner.{IsLost, IsOn, IsOver, reaches_after}
use Rattle.a64_emit.proofs.InnerLeads.{IsInner, inner_leads}
use Rattle.a64_emit.proofs.Positions.{Among, among_first, among_rest, inst_counted}
use Rattle.a64_emit.proofs.Straight.{ReachesUnlessLost, Runs, leads_by}

-- nothing follows
go_on_same : (mean : Meaning) (o : Outcome × List ℕ) → go_on mean (λ s junk. (Goes None s, junk)) o ≡ o
go_on_same mean (Goes None s, junk) = refl
go_on_same mean (Goes (Some exit) s, junk) = refl
go_on_same mean (Undefined, junk) = refl

leads_after : (z : Setting) (log : Log) (next : air.Config) (k n : ℕ) (c d : Machine) → 1 ≤ n → (runs : Runs z k c n d)
    → ReachesUnlessLost z log next (k + n) runs.last → LeadsUnlessLost z log next k c
leads_after z log air.Lost k n c d some runs rest = tt
leads_after z log (air.At b s) k n c d some runs rest = leads_by z log (air.At b s) k n c d some runs rest
leads_after z log (air.Stopped seen) k n c d some runs rest = leads_by z log (air.Stopped seen) k n c d some runs rest

-- what instructions up to the end of a block with these targets lead to, by some words of junk
pub record BlockEnds (z : Setting) (targets : List ℕ) (insts : List AirInst) (s : State) (k : ℕ) (c : Machine) : Type 0 where
  pub junk : List ℕ
  pub next : air.Config
  pub is : (rest : List ℕ) → air.left targets (steps (meaning z.start) insts s (junk ++ rest)) ≡ (next, rest)
  pub reaches : ReachesUnlessLost z (log_of s.world) next k c

module _ (z : Setting) (set : IsSet z) (serves : IsFrameOf z.procedure z.frame)
    (placed : (k label : ℕ) → slice_get z.code k ≡ Some (Label label) → position_of z.code label ≡ k) (targets : List ℕ) (next : ℕ) (last : AirInst) (end : ℕ) (ahead : place z.code z.long end < place z.code z.long (length z.code))
    (ends_last : (s : State) (c : Machine) → IsRelated z s c → Ends z targets last s end c) where
  one_last : (s : State) (junk : List ℕ) → air.left targets (steps (meaning z.start) (last ∷ []) s junk) ≡ air.left targets (step (meaning z.start) last s junk)
  unfolding steps
  one_last s junk = ap (air.left targets) (go_on_same (meaning z.start) (step (meaning z.start) last s junk))

  lost_first : (i : AirInst) (rest : List AirInst) (s : State) (junk : List ℕ) → step (meaning z.start) i s junk ≡ (Undefined, junk)
      → air.left targets (steps (meaning z.start) (i ∷ rest) s junk) ≡ (air.Lost, junk)
  unfolding steps
  lost_first i rest s junk e = rw e refl

  stops_first : (i : AirInst) (rest : List AirInst) (s t : State) (status : Status) (junk left : List ℕ)
      → step (meaning z.start) i s junk ≡ (Goes (Some (Over status)) t, left)
      → air.left targets (steps (meaning z.start) (i ∷ rest) s junk) ≡ (air.Stopped (air.seen_as t.world status), left)
  unfolding steps
  stops_first i rest s t status junk left e = rw e refl

  goes_first : (i : AirInst) (rest : List AirInst) (s t : State) (junk left : List ℕ) → step (meaning z.start) i s junk ≡ (Goes None t, left)
      → air.left targets (steps (meaning z.start) (i ∷ rest) s junk) ≡ air.left targets (steps (meaning z.start) rest t left)
  unfolding steps
  goes_first i rest s t junk left e = rw e refl

  pub body_ends : (body : List AirInst) (label mark : ℕ) (s : State) (k : ℕ) (c : Machine)
      → ((j : ℕ) (i : AirInst) → slice_get body j ≡ Some i → IsInner z i)
      → Among z.code k (insts_items z.frame next label mark targets (body ++ last ∷ []))
      → Among z.sites mark (flat_map (inst_sites z.frame) (body ++ last ∷ []))
      → (first : ℕ) → end ≤ first → HaveOwn z first label (body ++ last ∷ [])
      → k + length (insts_items z.frame next label mark targets body) ≡ end
      → All IsRangedAnswer s.world.answers → IsRelated z s c
      → BlockEnds z targets (body ++ last ∷ []) s k c
  unfolding insts_items
  body_ends [] label mark s k c inner among sites first far exits at ranged rel =
      let here : k ≡ end = omega arith in
      let e = ends_last s c rel in
      record {
        junk = [];
        next = e.next;
        is = λ junk. one_last s junk ∙ e.is junk;
        reaches = subst (λ k. ReachesUnlessLost z (log_of s.world) e.next k c) (sym here) e.reaches;
      }
  body_ends (i ∷ body) label mark s k c inner among sites first far exits at ranged rel =
      let items : List Item = inst_items z.frame next label mark targets i.traps i.op i.operands in
      let label_more : ℕ = label + labels_of i in
      let mark_more : ℕ = mark + marks_of i in
      let others : List Item = insts_items z.frame next label_more mark_more targets (body ++ last ∷ []) in
      let behind : List Item = insts_items z.frame next label_more mark_more targets body in
      let total = length-append items behind in
      let after : k + length items + length behind ≡ end = omega arith in
      let up = place_mono z.code z.long (k + length items) end (omega arith) in
      let own : Among z.sites mark (inst_sites z.frame i) =
      among_first z.sites mark (inst_sites z.frame i) (flat_map (inst_sites z.frame) (body ++ last ∷ [])) sites in
      let more : Among z.sites mark_more (flat_map (inst_sites z.frame) (body ++ last ∷ [])) =
      subst (λ n. Among z.sites (mark + n) (flat_map (inst_sites z.frame) (body ++ last ∷ []))) (inst_counted z.frame i)
      (among_rest z.sites mark (inst_sites z.frame i) (flat_map (inst_sites z.frame) (body ++ last ∷ [])) sites) in
      elim (inner_leads z set serves placed next label mark targets i s k c (inner 0 i refl) (among_first z.code k items others among) own
      (own_nearer z first (k + length items) label i (omega arith) exits.0) (omega arith) ranged rel)
      as (λ x. BlockEnds z targets (i ∷ (body ++ last ∷ [])) s k c) [
        | IsLost lost ↦ record { junk = []; next = air.Lost; is = λ junk. lost_first i (body ++ last ∷ []) s junk (lost junk); reaches = tt }
        | IsOver stops ↦ record {
          junk = stops.junk;
          next = air.Stopped (air.seen_as stops.state.world stops.status);
          is = λ rest. stops_first i (body ++ last ∷ []) s stops.state stops.status (stops.junk ++ rest) rest (stops.steps rest);
          reaches = stops.reaches;
        }
        | IsOn goes ↦
            let rest = body_ends body label_more mark_more goes.next (k + length items) goes.last (λ j other there. inner (suc j) other there)
            (among_rest z.code k items others among) more first far exits.1 after goes.ranged goes.related in
            record {
              junk = goes.junk ++ rest.junk;
              next = rest.next;
              is = λ left. ap (λ (junk : List ℕ). air.left targets (steps (meaning z.start) (i ∷ (body ++ last ∷ [])) s junk))
                  (append_assoc goes.junk rest.junk left)
                  ∙ goes_first i (body ++ last ∷ []) s goes.next (goes.junk ++ (rest.junk ++ left)) (rest.junk ++ left) (goes.steps (rest.junk ++ left))
                  ∙ rest.is left;
              reaches = goes.leads rest.next rest.reaches;
            }
      ]

module _ (z : Setting) (set : IsSet z) (serves : IsFrameOf z.procedure z.frame) where
  -- the prologue has instructions, and so has each run with its label
  entry_leads : (next : air.Config) (log : Log) (n : ℕ) (c d : Machine) → 1 ≤ n → (enters : Runs z 0 c n d)
      → ReachesUnlessLost z log next n enters.last → LeadsUnlessLost z log next 0 c
  entry_leads next log n c d some enters rest =
      leads_after z log next 0 n c d some enters (subst (λ k. ReachesUnlessLost z log next k enters.last) (omega arith) rest)

  block_steps : (b : ℕ) (block : AirBlock) (s : State) (next : air.Config) (junk rest : List ℕ) → slice_get z.procedure.blocks b ≡ Some block
      → air.left block.targets (steps (meaning z.start) block.insts s junk) ≡ (next, rest)
      → air.block_step (meaning z.start) z.procedure (air.At b s, junk) ≡ (next, rest)
  unfolding air.block_step
  block_steps b block s next junk rest there is =
      ap (λ (x : AirBlock). air.left x.targets (steps (meaning z.start) x.insts s junk))
      (get_or_from_slice_get z.procedure.blocks b block (record { insts = []; targets = [] }) there) ∙ is

  -- a block from its label on, where its instructions lead on
  pub block_carries : (b : ℕ) (block : AirBlock) (s : State) (k : ℕ) (c : Machine) → slice_get z.procedure.blocks b ≡ Some block
      → slice_get z.code k ≡ Some (Label b)
      → IsRelated z s c → ((d : Machine) → IsRelated z s d → BlockEnds z block.targets block.insts s (k + 1) d) → CarriesOut z b s k c
  block_carries b block s k c there label rel ends =
      let runs = label_runs z set serves s k b c label rel in
      let e = ends runs.last (alike_related z s c runs.last runs.alike (runs.small rel.frame.words.pc) rel) in
      record {
        junk = e.junk;
        next = e.next;
        is = λ rest. block_steps b block s e.next (e.junk ++ rest) rest there (e.is rest);
        leads = leads_after z (log_of s.world) e.next k 1 c c (omega arith) runs e.reaches;
      }

  -- the entry: items lead to its label
  pub entry_carries : (block : AirBlock) (s : State) (n : ℕ) (c d : Machine) → slice_get z.procedure.blocks 0 ≡ Some block → slice_get z.code n ≡ Some (Label 0)
      → 1 ≤ n → c.registers.pc < 2 ^ 64 → Runs z 0 c n d → IsRelated z s d
      → ((d : Machine) → IsRelated z s d → BlockEnds z block.targets block.insts s (n + 1) d) → CarriesOut z 0 s 0 c
  entry_carries block s n c d there label some small enters rel ends =
      let here : 0 + n ≡ n = omega arith in
      let rel_last = alike_related z s d enters.last enters.alike (enters.small small) rel in
      let runs = label_runs z set serves s n 0 enters.last label rel_last in
      let e = ends runs.last (alike_related z s enters.last runs.last runs.alike (runs.small rel_last.frame.words.pc) rel_last) in
      let at_label : ReachesUnlessLost z (log_of s.world) e.next n enters.last =
      reaches_after z s s e.next n 1 enters.last enters.last refl runs e.reaches in
      record {
        junk = e.junk;
        next = e.next;
        is = λ rest. block_steps 0 block s e.next (e.junk ++ rest) rest there (e.is rest);
        leads = entry_leads e.next (log_of s.world) n c d some enters at_label;
      }

-- Exits behind the last block: where each stands, with its mark and its break.
use Rattle.std.proofs.Common.{◌≡◌, ℕ, suc, ◌+◌, ◌<◌, ◌≤◌, Bool, true, false, List, [], ◌∷◌, ◌++◌, Some, length, refl, sym, ap, ◌∙◌, subst, arith}
use Rattle.std.specs.Prelude.{slice_get}
use Rattle.std.specs.List.{flat_map}
use Rattle.stackmap.specs.declared.site.Site.{Site}
use Rattle.a64_inst.specs.declared.inst.Inst.TheVariants.{Break}
use Rattle.a64_inst.specs.declared.item.Item.{Item}
use Rattle.a64_inst.specs.declared.item.Item.TheVariants.{Label, Mark, Plain}
use Rattle.air_ir.specs.Kinds.{Checks, ChecksResult, Kind, kind_of}
use Rattle.air_ir.specs.declared.frame.Frame.{Frame}
use Rattle.air_ir.specs.declared.procedure.AirInst.{AirInst}
use Rattle.a64_emit.specs.Code.{exit_items, exits_by, exits_of, has_exit, inst_exits, insts_exits, labels_of}
use Rattle.a64_emit.specs.Made.{exit_by, inst_exit}
use Rattle.a64_emit.specs.Setting.{Setting}
use Rattle.a64_emit.proofs.Positions.{Among, among_first, among_rest, exits_counted}

-- an exit of a label at or behind an item, and the site of its mark
pub record ExitAt (z : Setting) (first label : ℕ) (site : Site) : Type 0 where
  pub at : ℕ
  pub behind : first ≤ at
  pub labelled : slice_get z.code at ≡ Some (Label label)
  pub mark : ℕ
  pub marked : slice_get z.code (at + 1) ≡ Some (Mark mark)
  pub breaks : slice_get z.code (at + 1 + 1) ≡ Some (Plain (Break 1))
  pub is_site : slice_get z.sites mark ≡ Some site

-- the exit of an instruction, where it has one, and those of instructions
abbrev pub HasOwn : Setting → ℕ → ℕ → AirInst → Type 0
HasOwn z first label i = (site : Site) → inst_exit z.frame i ≡ site ∷ [] → ExitAt z first label site

abbrev pub HaveOwn : Setting → ℕ → ℕ → List AirInst → Type 0
HaveOwn z first label [] = Unit {0}
HaveOwn z first label (i ∷ is) = HasOwn z first label i × HaveOwn z first (label + labels_of i) is

-- what stands behind an item stands behind one before that
pub own_nearer : (z : Setting) (first nearer label : ℕ) (i : AirInst) → nearer ≤ first → HasOwn z first label i → HasOwn z nearer label i
own_nearer z first nearer label i le own site is =
    let e : ExitAt z first label site = own site is in
    record {
      at = e.at;
      behind = omega (arith, e.behind);
      labelled = e.labelled;
      mark = e.mark;
      marked = e.marked;
      breaks = e.breaks;
      is_site = e.is_site;
    }

one_exit : (z : Setting) (first at label mark : ℕ) (site : Site) → first ≤ at → Among z.code at (exit_items label mark)
    → slice_get z.sites mark ≡ Some site → ExitAt z first label site
one_exit z first at label mark site le items is = record {
  at = at;
  behind = le;
  labelled = ap (slice_get z.code) (omega arith) ∙ items 0 (Label label) refl;
  mark = mark;
  marked = items 1 (Mark mark) refl;
  breaks = ap (slice_get z.code) (omega arith) ∙ items 2 (Plain (Break 1)) refl;
  is_site = is;
}

own_exit : (z : Setting) (first at label mark : ℕ) (i : AirInst) → first ≤ at → Among z.code at (inst_exits label mark i)
    → Among z.sites mark (inst_exit z.frame i) → HasOwn z first label i
own_exit z first at label mark i le items sites = by (kind_of i.op) items sites
  where
    one : (site own : Site) → own ∷ [] ≡ site ∷ [] → Among z.code at (exit_items label mark) → Among z.sites mark (own ∷ []) → ExitAt z first label site
    one site own e items sites =
        let same : own ≡ site = cc in
        one_exit z first at label mark site le items (ap (slice_get z.sites) (omega arith) ∙ sites 0 own refl ∙ ap Some same)

    by : (kind : Kind) → Among z.code at (exits_by (has_exit kind) label mark) → Among z.sites mark (exit_by kind z.frame i)
        → (site : Site) → exit_by kind z.frame i ≡ site ∷ [] → ExitAt z first label site
    by (Checks test) items sites site e = one site _ e items sites
    by (ChecksResult checked) items sites site e = one site _ e items sites
    by kind items sites site e = absurd cc

pub exits_stand : (z : Setting) (first at label mark : ℕ) (is : List AirInst) → first ≤ at → Among z.code at (insts_exits label mark is)
    → Among z.sites mark (flat_map (inst_exit z.frame) is) → HaveOwn z first label is
unfolding insts_exits
exits_stand z first at label mark [] le items sites = tt
exits_stand z first at label mark (i ∷ is) le items sites =
    let own : List Item = inst_exits label mark i in
    let rest : List Item = insts_exits (label + labels_of i) (mark + exits_of i) is in (
      own_exit z first at label mark i le (among_first z.code at own rest items)
          (among_first z.sites mark (inst_exit z.frame i) (flat_map (inst_exit z.frame) is) sites),
      exits_stand z first (at + length own) (label + labels_of i) (mark + exits_of i) is (omega arith) (among_rest z.code at own rest items)
          (subst (λ n. Among z.sites (mark + n) (flat_map (inst_exit z.frame) is)) (exits_counted z.frame i)
          (among_rest z.sites mark (inst_exit z.frame i) (flat_map (inst_exit z.frame) is) sites)),
    )

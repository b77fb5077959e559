-- The code of a procedure of Air.
use Rattle.std.proofs.Common.{◌≡◌, ℕ, suc, ◌+◌, ◌^◌, ◌<◌, ◌≤◌, List, [], Some, refl, sym, ap, ◌∙◌, subst, arith, length, get_or}
use Rattle.std.specs.Prelude.{slice_get}
use Rattle.std.specs.List.{position_or_len}
use Rattle.stackmap.specs.declared.site.Site.{Site}
use Rattle.std.proofs.lemmas.Option.{slice_get-get_or}
use Rattle.a64_inst.specs.declared.item.Item.{Item}
use Rattle.a64_inst.specs.declared.item.Item.TheVariants.{Label}
use Rattle.air_ir.specs.Weight.{weight}
use Rattle.air_ir.specs.WellFormed.{HasOneSiteEach, IsWellFormed}
use Rattle.air_ir.specs.declared.frame.Frame.{Frame}
use Rattle.air_ir.specs.declared.procedure.AirProc.{AirProc}
use Rattle.air_frame.specs.Frames.{IsFrameOf}
use Rattle.a64_layout.specs.Layout.{most_words, position_of}
use Rattle.a64_layout.specs.Text.{is_mark, mark_position_of}
use Rattle.a64_emit.specs.Built.{IsBuilt}
use Rattle.a64_emit.specs.Code.{emitted}
use Rattle.a64_emit.specs.Emitted.{CarriesOut, IsCodeOfAir, IsSettingOf}
use Rattle.a64_emit.specs.Made.{HasSmallValues, procedure_sites}
use Rattle.a64_emit.specs.Setting.{Setting}
use Rattle.a64_emit.specs.Sites.{SuitsItems}
use Rattle.a64_emit.proofs.BlockEnds.{ahead_of_blocks}
use Rattle.a64_emit.proofs.CodeOfAir.{block_carried, entry_carried}
use Rattle.a64_emit.proofs.LabelCounts.{labels_counted}
use Rattle.a64_emit.proofs.CodeMarked.{code_marked}
use Rattle.a64_emit.proofs.Light.{light}
use Rattle.a64_emit.proofs.Marks.{mark_stands, marks_counted, marks_rise}
use Rattle.a64_emit.proofs.Positions.{positions_rise}
use Rattle.a64_emit.proofs.SitesMade.{sites_apart, sites_made}
use Rattle.a64_emit.proofs.WellLabelled.{position_is, well_labelled}

module _ (p : AirProc) (frame : Frame) (well : IsWellFormed p) (no_tmps : p.tmps ≡ 0) (serves : IsFrameOf p frame) (short : weight p < 2 ^ 24)
    (built : IsBuilt p) (one : HasOneSiteEach p) (small : HasSmallValues p) where
  -- a setting of this procedure, its frame and its code
  module _ (z : Setting) (of : IsSettingOf p frame (emitted p frame) (procedure_sites p frame) z) where
    its_frame : IsFrameOf z.procedure z.frame
    its_frame = subst (λ q. IsFrameOf q z.frame) (sym of.0) (subst (IsFrameOf p) (sym of.1) serves)

    its_blocks : IsWellFormed z.procedure
    its_blocks = subst IsWellFormed (sym of.0) well

    its_built : IsBuilt z.procedure
    its_built = subst IsBuilt (sym of.0) built

    its_code : z.code ≡ emitted z.procedure z.frame
    its_code = of.2 ∙ ap (λ q. emitted q frame) (sym of.0) ∙ ap (emitted z.procedure) (sym of.1)

    its_sites : z.sites ≡ procedure_sites z.procedure z.frame
    its_sites = of.3 ∙ ap (λ q. procedure_sites q frame) (sym of.0) ∙ ap (procedure_sites z.procedure) (sym of.1)

    its_labels : (k label : ℕ) → slice_get z.code k ≡ Some (Label label) → position_of z.code label ≡ k
    its_labels k label there =
        ap (λ code. position_of code label) of.2 ∙ position_is p frame well serves.good.limit serves.good.saved k label (ap (λ code. slice_get code k) (sym of.2) ∙ there)

    block_there : (b : ℕ) → b < length p.blocks → slice_get z.procedure.blocks b ≡ Some (get_or p.blocks b (record { insts = []; targets = [] }))
    block_there b lt = ap (λ (q : AirProc). slice_get q.blocks b) of.0 ∙ slice_get-get_or p.blocks b (record { insts = []; targets = [] }) lt

  stands_at : (m : ℕ) (site : Site) → slice_get (procedure_sites p frame) m ≡ Some site
      → (mark_position_of (emitted p frame) m ≡ mark_position_of (emitted p frame) m)
      × SuitsItems (emitted p frame) site.kind site.size (mark_position_of (emitted p frame) m + 1)
  unfolding mark_position_of
  stands_at m site there =
      let stands = mark_stands 0 (emitted p frame) (procedure_sites p frame) (code_marked p frame well built) m site there in
      let e : 0 + m ≡ m = omega arith in
      let at : position_or_len (is_mark m) (emitted p frame) ≡ stands.at =
      subst (λ n. position_or_len (is_mark n) (emitted p frame) ≡ stands.at) e stands.position in
      let next : suc stands.at ≡ position_or_len (is_mark m) (emitted p frame) + 1 = omega arith in
      (refl, subst (SuitsItems (emitted p frame) site.kind site.size) next stands.suits)

  in_order : (m n : ℕ) → m < n → n < length (procedure_sites p frame) → mark_position_of (emitted p frame) m < mark_position_of (emitted p frame) n
  unfolding mark_position_of
  in_order m n lt within =
      let a : 0 + m ≡ m = omega arith in
      let b : 0 + n ≡ n = omega arith in
      subst (λ x. position_or_len (is_mark x) (emitted p frame) < position_or_len (is_mark n) (emitted p frame)) a
      (subst (λ x. position_or_len (is_mark (0 + m)) (emitted p frame) < position_or_len (is_mark x) (emitted p frame)) b
      (marks_rise 0 (emitted p frame) (procedure_sites p frame) (code_marked p frame well built) m n lt within))

  pub code_of_air : IsCodeOfAir p frame (emitted p frame) (procedure_sites p frame)
  code_of_air =
      let few : most_words (emitted p frame) ≤ weight p = light p frame well built serves in
      let count = labels_counted p frame in
      record {
        items = refl;
        labelled = well_labelled p frame well serves.good.limit serves.good.saved (procedure_sites p frame) (code_marked p frame well built) (omega arith);
        labels = omega arith;
        rising = positions_rise p frame;
        behind = λ long b lt. ahead_of_blocks p frame well long b lt;
        marks = marks_counted 0 (emitted p frame) (procedure_sites p frame) (code_marked p frame well built);
        in_order = in_order;
        suits = λ m site there. (stands_at m site there).1;
        made = sites_made p frame well no_tmps serves small;
        apart = sites_apart p frame well no_tmps serves one;
        light = few;
        entry = λ z answers c of ranged begins.
            entry_carried z of.4 (its_frame z of) (its_blocks z of) (ap (λ (q : AirProc). q.tmps) of.0 ∙ no_tmps) (its_built z of) (its_code z of)
            (its_sites z of) (its_labels z of)
            0 (get_or p.blocks 0 (record { insts = []; targets = [] })) (block_there z of 0 well.entry) refl answers c ranged begins;
        block = λ z b s c of some lt ranged rel.
            subst (λ code. CarriesOut z b s (position_of code b) c) of.2
            (block_carried z of.4 (its_frame z of) (its_blocks z of) (ap (λ (q : AirProc). q.tmps) of.0 ∙ no_tmps) (its_built z of) (its_code z of)
            (its_sites z of) (its_labels z of)
            b (get_or p.blocks b (record { insts = []; targets = [] })) (block_there z of b lt) s c ranged rel);
      }

  pub is_code_of_air : (code : List Item) (sites : List Site) → code ≡ emitted p frame → sites ≡ procedure_sites p frame → IsCodeOfAir p frame code sites
  is_code_of_air code sites same_code same_sites =
      subst (λ x. IsCodeOfAir p frame code x) (sym same_sites) (subst (λ x. IsCodeOfAir p frame x (procedure_sites p frame)) (sym same_code) code_of_air)

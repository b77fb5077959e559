-- The labels of emitted code are the numbers below their count, each once, and each that is named is there.
use Rattle.std.proofs.Common.{◌≡◌, ℕ, ◌+◌, ◌^◌, ◌<◌, List, Option, Some, None, length, refl, subst, arith}
use Rattle.std.specs.Prelude.{slice_get, All}
use Rattle.std.proofs.lemmas.Option.{slice_get_within}
use Rattle.std.specs.List.{position_or_len}
use Rattle.b3_base.proofs.Lists.{get_some}
use Rattle.stackmap.specs.declared.site.Site.{Site}
use Rattle.a64_inst.specs.declared.item.Item.{Item}
use Rattle.a64_inst.specs.declared.item.Item.TheVariants.{If, IfBit, IfZero, Jump, Label, Mark, Plain}
use Rattle.a64_layout.specs.Branch.{IsTest, branch_in}
use Rattle.a64_layout.specs.Layout.{most_words, position_of}
use Rattle.a64_layout.specs.Text.{IsWellLabelled, is_mark, mark_position_of}
use Rattle.a64_layout.specs.declared.branch.Test.{Test}
use Rattle.a64_layout.specs.declared.branch.Test.TheVariants.{Holds, Zero, Bit}
use Rattle.a64_layout.proofs.Least.{no_some, one_branch}
use Rattle.a64_emit.specs.Code.{emitted}
use Rattle.a64_emit.proofs.LabelCounts.{all_labels, below_is, below_most, code_times, labels_counted, one_place, some_times, stands_somewhere}
use Rattle.a64_emit.proofs.Labelled.{IsFair, code_fair}
use Rattle.a64_emit.proofs.Marks.{Marked, mark_once, mark_stands, mark_within, marks_counted}
use Rattle.a64_emit.proofs.Positions.{each_at}
use Rattle.exit_table.specs.Good.{IsGoodSaved}
use Rattle.air_ir.specs.WellFormed.{IsWellFormed}
use Rattle.air_ir.specs.declared.frame.Frame.{Frame}
use Rattle.air_ir.specs.declared.procedure.AirProc.{AirProc}

-- what is fair of a branch
fair_branch : (n : ℕ) (test : Test) (label : ℕ) (o : Option Item) → ((item : Item) → o ≡ Some item → IsFair n item) → branch_in o ≡ Some (test, label)
    → IsTest test × (label < n)
fair_branch n test label None fair is = absurd (no_some (test, label) is)
fair_branch n test label (Some (If holds to)) fair is =
    subst (λ (b : Test × ℕ). IsTest b.0 × (b.1 < n)) (one_branch (Some (Holds holds, to)) (Holds holds, to) (test, label) refl is) (tt, fair (If holds to) refl)
fair_branch n test label (Some (IfZero width nonzero reg to)) fair is =
    let h = fair (IfZero width nonzero reg to) refl in
    subst (λ (b : Test × ℕ). IsTest b.0 × (b.1 < n)) (one_branch (Some (Zero width nonzero reg, to)) (Zero width nonzero reg, to) (test, label) refl is)
    (h.0, h.1)
fair_branch n test label (Some (IfBit nonzero reg at to)) fair is =
    let h = fair (IfBit nonzero reg at to) refl in
    subst (λ (b : Test × ℕ). IsTest b.0 × (b.1 < n)) (one_branch (Some (Bit nonzero reg at, to)) (Bit nonzero reg at, to) (test, label) refl is)
    ((h.0, h.1), h.2)
fair_branch n test label (Some (Plain inst)) fair is = absurd (no_some (test, label) is)
fair_branch n test label (Some (Jump to)) fair is = absurd (no_some (test, label) is)
fair_branch n test label (Some (Label to)) fair is = absurd (no_some (test, label) is)
fair_branch n test label (Some (Mark to)) fair is = absurd (no_some (test, label) is)

module _ (p : AirProc) (f : Frame) (well : IsWellFormed p) (limit : f.bytes < 2 ^ 21) (goods : All (IsGoodSaved f.bytes) f.saved) where
  fair_at : (k : ℕ) (item : Item) → slice_get (emitted p f) k ≡ Some item → IsFair (all_labels p) item
  fair_at k item there = each_at (IsFair (all_labels p)) (emitted p f) k item (code_fair p f well limit goods) there

  label_once : (i j label : ℕ) → slice_get (emitted p f) i ≡ Some (Label label) → slice_get (emitted p f) j ≡ Some (Label label) → i ≡ j
  label_once i j label there_i there_j =
      let times = code_times p f label in
      let most = below_most (all_labels p) label in
      one_place label (emitted p f) i j (omega arith) there_i there_j

  label_at : (label : ℕ) → label < all_labels p → slice_get (emitted p f) (position_of (emitted p f) label) ≡ Some (Label label)
  label_at label lt =
      let times = code_times p f label in
      let one = below_is (all_labels p) label lt in
      stands_somewhere label (emitted p f) (omega arith)

  -- where a label stands, there is its position
  pub position_is : (k label : ℕ) → slice_get (emitted p f) k ≡ Some (Label label) → position_of (emitted p f) label ≡ k
  position_is k label there =
      let times = some_times label (emitted p f) k there in
      label_once (position_of (emitted p f) label) k label (stands_somewhere label (emitted p f) times) there

  mark_there : (sites : List Site) → Marked 0 (emitted p f) sites → (mark : ℕ) → mark < length sites → mark_position_of (emitted p f) mark < length (emitted p f)
  unfolding mark_position_of
  mark_there sites marked mark lt =
      let site = get_some sites mark lt in
      let stands = mark_stands 0 (emitted p f) sites marked mark site.0 site.1 in
      let e : 0 + mark ≡ mark = omega arith in
      let within = slice_get_within (emitted p f) stands.at (Mark (0 + mark)) stands.there in
      let at : position_or_len (is_mark mark) (emitted p f) ≡ stands.at =
      subst (λ m. position_or_len (is_mark m) (emitted p f) ≡ stands.at) e stands.position in
      omega arith

  pub well_labelled : (sites : List Site) → Marked 0 (emitted p f) sites → most_words (emitted p f) < 2 ^ 24 → IsWellLabelled (emitted p f)
  unfolding mark_position_of
  well_labelled sites marked short =
      let count = labels_counted p f in
      let marks = marks_counted 0 (emitted p f) sites marked in
      record {
        insts = λ k inst there. fair_at k (Plain inst) there;
        tests = λ k test label is. (fair_branch (all_labels p) test label (slice_get (emitted p f) k) (λ item there. fair_at k item there) is).0;
        jumps = λ k label there. let lt = fair_at k (Jump label) there in omega arith;
        ifs = λ k test label is. let lt = (fair_branch (all_labels p) test label (slice_get (emitted p f) k)
            (λ item there. fair_at k item there) is).1 in omega arith;
        labels = λ k label there. let lt = fair_at k (Label label) there in omega arith;
        label_once = label_once;
        label_there = λ label lt.
            slice_get_within (emitted p f) (position_of (emitted p f) label) (Label label) (label_at label (omega arith));
        marks = λ k mark there. let within = mark_within 0 (emitted p f) sites marked k mark there in omega (arith, within.1);
        mark_once = λ i j mark there_i there_j. mark_once 0 (emitted p f) sites marked i j mark there_i there_j;
        mark_there = λ mark lt. mark_there sites marked mark (omega arith);
        short = short;
      }

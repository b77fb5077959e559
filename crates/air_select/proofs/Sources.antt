-- An Upsilon copies its child's word to the location of its Phi, and a Trunc the low half of its child's word.
use Rattle.std.proofs.Common.{◌≡◌, ℕ, ◌%◌, ◌^◌, false, List, [], ◌∷◌, map, Some, None, refl, sym, ap, ◌∙◌, subst, arith}
use Rattle.b3_base.specs.Arithmetic.{low}
use Rattle.b3_base.specs.Observed.{Start}
use Rattle.b3_base.specs.declared.word.Width.{Width}
use Rattle.b3_base.specs.declared.word.Width.TheVariants.{W32, W64}
use Rattle.b3_ir.specs.Fits.{IsTarget}
use Rattle.b3_ir.specs.Naming.{type_of, type_or_void}
use Rattle.b3_ir.specs.Procedure.{Procedure}
use Rattle.b3_ir.specs.Types.{AllowsTypes, width_of}
use Rattle.b3_ir.specs.declared.opcode.Opcode.{Opcode}
use Rattle.b3_ir.specs.declared.opcode.Opcode.TheVariants as opcode
use Rattle.b3_ir.specs.declared.opcode.Ty.{Ty}
use Rattle.b3_ir.specs.declared.opcode.Ty.TheVariants.{Int64}
use Rattle.b3_ir.specs.declared.table.Takes.TheVariants.{Any, This}
use Rattle.b3_ir.specs.declared.value.Body.{Body}
use Rattle.b3_ir.specs.declared.value.Body.TheVariants.{Target}
use Rattle.b3_ir.specs.declared.value.Value.{Value}
use Rattle.b3_meaning.specs.Opcodes.{Gives, result}
use Rattle.b3_meaning.specs.Roles.{role_of}
use Rattle.b3_meaning.specs.Run as b3
use Rattle.b3_rules.specs.Rules.{SuitsPhi, types_of}
use Rattle.air_ir.specs.Meaning.{meaning}
use Rattle.air_ir.specs.Operands.{Empty, Held, Holds, read, word_of}
use Rattle.air_ir.specs.Steps.{Goes, steps}
use Rattle.air_ir.specs.declared.operand.Arg.TheVariants.{At}
use Rattle.air_fold.specs.Foldable.{constant_fits, pointers, sum_fits, value_fits}
use Rattle.air_select.specs.Selected.{Tables, arg_of, folds, move, phi_in}
use Rattle.air_select.specs.Temporaries.{home, location}
use Rattle.air_fold.specs.Values.{child, width_at}
use Rattle.air_select.proofs.Children.{unfolded, width_is, word_small}
use Rattle.air_select.proofs.Copied.{child_here, first_child, moved, place_of_child, row_of_role}
use Rattle.air_select.proofs.Does.{Does, Here, allows, are_words, gives_does, here, puts, result_small, rules, words_here}
use Rattle.air_select.proofs.Instructions.{at_home, with_home}
use Rattle.air_select.proofs.Related.{holds_word, location_related}
use Rattle.air_select.proofs.Shapes.{one_child}

target_is : (body : Body) → IsTarget body → (phi : ℕ) × (body ≡ Target phi)
target_is (Target phi) is = (phi, refl)
target_is _ is = absurd is

head_is : (a b : Ty) (ts us : List Ty) → a ∷ ts ≡ b ∷ us → a ≡ b
head_is a b ts us e = cc

-- the low half of a word that is held
pub low_half : (held : Held) (w : ℕ) → read W64 held ≡ Some w → read W32 held ≡ Some (low W32 w)
unfolding read
low_half Empty w e = absurd (cc)
low_half (Holds W32 word) w e = absurd (cc)
low_half (Holds W64 word) w e =
    let same : low W64 word ≡ w = cc in
    let halves : low W32 word ≡ low W32 w = halves_of word w same in
    ap Some halves
  where
    halves_of : (word w : ℕ) → word % 2 ^ 64 ≡ w → word % 2 ^ 32 ≡ w % 2 ^ 32
    halves_of word w e = omega arith

module _ (p : Procedure) (t : Tables) (start : Start) (v : Value) (h : Here p t start v) (junk : List ℕ) where
  pub upsilon_does : v.kind.opcode ≡ opcode.Upsilon
      → Does p t start v junk (b3.sets h.st v.body (words_here p t start v h))
      (steps (meaning start) (move v (width_at t.index (child v.children 0)) (arg_of t (child v.children 0)) (location t.index (phi_in v.body)) ∷ []) h.s junk)
  upsilon_does eo =
      let ws = words_here p t start v h in
      let allowed = subst (λ (q : Opcode). AllowsTypes q v.ty (types_of p v)) eo (allows p t start v h) in
      let shape = one_child (type_of p) h.st.words allowed.alike Any v.children ws allowed.children (are_words p t start v h) in
      let target = target_is v.body (row_of_role p t start v h opcode.Upsilon eo).2 in
      let phi = target.0 in
      let suits : SuitsPhi p (types_of p v) (Target phi) = subst (SuitsPhi p (types_of p v)) target.1 (rules p t start v h).phi in
      let types : type_of p shape.x ≡ (suits.0).ty = head_is (type_of p shape.x) (suits.0).ty [] [] (sym (ap (map (type_of p)) shape.are) ∙ suits.3) in
      let widths : width_at t.index phi ≡ width_at t.index shape.x =
      width_here phi ∙ ap width_of (ap type_or_void suits.1 ∙ sym types) ∙ sym (width_here shape.x) in
      subst (λ (b : Body). Does p t start v junk (b3.sets h.st b ws)
      (steps (meaning start) (move v (width_at t.index (child v.children 0)) (arg_of t (child v.children 0)) (location t.index (phi_in b)) ∷ []) h.s junk))
      (sym target.1)
      (subst (λ (l : List ℕ). Does p t start v junk (b3.sets h.st (Target phi) l)
      (steps (meaning start) (move v (width_at t.index (child v.children 0)) (arg_of t (child v.children 0)) (location t.index phi) ∷ []) h.s junk))
      (sym shape.words)
      (subst (λ (c : ℕ). Does p t start v junk (b3.Next (b3.with_location h.st phi shape.wx))
      (steps (meaning start) (move v (width_at t.index c) (arg_of t c) (location t.index phi) ∷ []) h.s junk))
      (sym (ap (λ (l : List ℕ). child l 0) shape.are)) (
        with_home h.s (location t.index phi) (width_at t.index shape.x) shape.wx,
        moved p t start v h h.s junk (width_at t.index shape.x) (arg_of t shape.x) (location t.index phi) shape.wx
            (child_here p t start v h 0 shape.x shape.wx (place_of_child p t start v h v.children shape.x [] shape.are)
            (first_child p t start v h shape.x [] shape.are) shape.x_now
            (λ k. ap (λ (q : Opcode). value_fits t.index (pointers p) q 0 v.id k) eo)),
        location_related p t h.sound start h.st h.s h.related phi suits.0 suits.1 shape.wx (Holds (width_at t.index shape.x) shape.wx) suits.2
            (ap (λ (k : Width). read k (Holds (width_at t.index shape.x) shape.wx)) widths ∙ holds_word (width_at t.index shape.x) shape.wx
            (word_small p h.valid t h.sound start h.passed h.block h.before (v ∷ h.rest) h.stands h.st h.reached h.s h.related shape.x shape.wx shape.x_now)),
      )))
    where
      width_here : (id : ℕ) → width_at t.index id ≡ width_of (type_of p id)
      width_here id = width_is p h.valid t h.sound start h.passed h.block h.before (v ∷ h.rest) h.stands h.st h.reached h.s h.related id

  pub trunc_does : v.kind.opcode ≡ opcode.Trunc
      → Does p t start v junk (b3.gives h.st v.id (result v.kind.opcode v.kind.chill v.ty (words_here p t start v h) (types_of p v)))
      (steps (meaning start) (move v W32 (arg_of t (child v.children 0)) (home t.index v.id) ∷ []) h.s junk)
  trunc_does eo =
      let ws = words_here p t start v h in
      let code = move v W32 (arg_of t (child v.children 0)) (home t.index v.id) ∷ [] in
      gives_does p t start v h junk (result v.kind.opcode v.kind.chill v.ty ws (types_of p v)) (steps (meaning start) code h.s junk)
      (λ w g.
      let allowed = subst (λ (q : Opcode). AllowsTypes q v.ty (types_of p v)) eo (allows p t start v h) in
      let shape = one_child (type_of p) h.st.words allowed.alike (This Int64) v.children ws allowed.children (are_words p t start v h) in
      let c_is : child v.children 0 ≡ shape.x = ap (λ (l : List ℕ). child l 0) shape.are in
      let same : low W32 shape.wx ≡ w =
      same_word (low W32 shape.wx) w
      (ap (λ (l : List ℕ). result opcode.Trunc v.kind.chill v.ty l (types_of p v)) (sym shape.words)
      ∙ ap (λ (q : Opcode). result q v.kind.chill v.ty ws (types_of p v)) (sym eo) ∙ g) in
      let un : folds t shape.x ≡ false =
      unfolded p h.valid t h.sound start h.block v (here p t start v h) 0 shape.x (place_of_child p t start v h v.children shape.x [] shape.are)
      (λ k. ap (λ (q : Opcode). value_fits t.index (pointers p) q 0 v.id k) eo)
      (λ width word. ap (λ (q : Opcode). constant_fits q 0 width word) eo) (ap (λ (q : Opcode). sum_fits t.index (pointers p) q 0 v.id) eo) in
      let wide : width_at t.index shape.x ≡ W64 =
      width_is p h.valid t h.sound start h.passed h.block h.before (v ∷ h.rest) h.stands h.st h.reached h.s h.related shape.x ∙ ap width_of shape.x_taken in
      let in_home : read W64 (h.s.homes (home t.index shape.x)) ≡ Some shape.wx =
      ap (λ (k : Width). read k (h.s.homes (home t.index shape.x))) (sym wide) ∙ h.related.words shape.x shape.wx shape.x_now un in
      let arg_is : arg_of t (child v.children 0) ≡ At (home t.index shape.x) = ap (arg_of t) c_is ∙ rw un refl in
      let reads : word_of h.s.homes W32 (arg_of t (child v.children 0)) ≡ Some w =
      ap (word_of h.s.homes W32) arg_is ∙ at_home h.s.homes W32 (home t.index shape.x) (low W32 shape.wx)
      (low_half (h.s.homes (home t.index shape.x)) shape.wx in_home) ∙ ap Some same in
      let narrow : W32 ≡ width_of v.ty = ap width_of (sym allowed.gives) in
      puts p t start v h junk w h.s (steps (meaning start) code h.s junk) (result_small p t start v h w (ap role_of eo) g) h.related
      (moved p t start v h h.s junk W32 (arg_of t (child v.children 0)) (home t.index v.id) w reads
      ∙ ap (λ (k : Width). (Goes None (with_home h.s (home t.index v.id) k w), junk)) narrow))
    where
      same_word : (a b : ℕ) → Gives a ≡ Gives b → a ≡ b
      same_word a b e = cc

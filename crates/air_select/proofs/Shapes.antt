-- The children of a value, by what its row takes.
use Rattle.std.proofs.Common.{◌≡◌, ℕ, List, [], ◌∷◌, map, Some, refl, sym, ap, ◌∙◌, subst, Option}
use Rattle.std.specs.Prelude.{Contains, slice_get}
use Rattle.b3_base.proofs.Lists.{Contains-first, Contains-later}
use Rattle.b3_ir.specs.Types.{AreTaken, IsTaken}
use Rattle.b3_ir.specs.declared.table.Takes.{Takes}
use Rattle.b3_ir.specs.declared.table.More.TheVariants.{NoMore}
use Rattle.b3_meaning.specs.Run as b3
use Rattle.air_fold.specs.Values.{child}
use Rattle.air_select.proofs.Children.{words_cons, words_nil}
use Rattle.b3_ir.specs.declared.opcode.Ty.{Ty}

module _ (types : ℕ → Ty) (f : ℕ → Option ℕ) (alike : Ty) where
  pub record OneChild (a : Takes) (cs ws : List ℕ) : Type 0 where
    pub x : ℕ
    pub wx : ℕ
    pub are : cs ≡ x ∷ []
    pub words : ws ≡ wx ∷ []
    pub x_now : f x ≡ Some wx
    pub x_taken : IsTaken alike a (types x)

  pub record TwoChildren (a b : Takes) (cs ws : List ℕ) : Type 0 where
    pub x : ℕ
    pub y : ℕ
    pub wx : ℕ
    pub wy : ℕ
    pub are : cs ≡ x ∷ y ∷ []
    pub words : ws ≡ wx ∷ wy ∷ []
    pub x_now : f x ≡ Some wx
    pub y_now : f y ≡ Some wy
    pub x_taken : IsTaken alike a (types x)
    pub y_taken : IsTaken alike b (types y)

  pub record ThreeChildren (a b c : Takes) (cs ws : List ℕ) : Type 0 where
    pub x : ℕ
    pub y : ℕ
    pub z : ℕ
    pub wx : ℕ
    pub wy : ℕ
    pub wz : ℕ
    pub are : cs ≡ x ∷ y ∷ z ∷ []
    pub words : ws ≡ wx ∷ wy ∷ wz ∷ []
    pub x_now : f x ≡ Some wx
    pub y_now : f y ≡ Some wy
    pub z_now : f z ≡ Some wz
    pub x_taken : IsTaken alike a (types x)
    pub y_taken : IsTaken alike b (types y)
    pub z_taken : IsTaken alike c (types z)

  pub one_child : (a : Takes) (cs ws : List ℕ) → AreTaken alike (a ∷ []) NoMore (map types cs) → b3.words_of types f cs ≡ Some ws → OneChild a cs ws
  one_child a [] ws taken e = absurd taken
  one_child a (c ∷ d ∷ cs) ws taken e = absurd (let none : map types (d ∷ cs) ≡ [] = taken.1 in cc)
  one_child a (c ∷ []) ws taken e =
      let one = words_cons types f c [] ws e in
      record {
        x = c;
        wx = one.0;
        are = refl;
        words = one.2 ∙ ap (λ (l : List ℕ). one.0 ∷ l) (words_nil types f one.1 one.4);
        x_now = one.3;
        x_taken = taken.0;
      }

  pub two_children : (a b : Takes) (cs ws : List ℕ) → AreTaken alike (a ∷ b ∷ []) NoMore (map types cs) → b3.words_of types f cs ≡ Some ws
      → TwoChildren a b cs ws
  two_children a b [] ws taken e = absurd taken
  two_children a b (c ∷ cs) ws taken e =
      let one = words_cons types f c cs ws e in
      let others = one_child b cs one.1 taken.1 one.4 in
      record {
        x = c;
        y = others.x;
        wx = one.0;
        wy = others.wx;
        are = ap (λ (l : List ℕ). c ∷ l) others.are;
        words = one.2 ∙ ap (λ (l : List ℕ). one.0 ∷ l) others.words;
        x_now = one.3;
        y_now = others.x_now;
        x_taken = taken.0;
        y_taken = others.x_taken;
      }

  pub three_children : (a b c : Takes) (cs ws : List ℕ) → AreTaken alike (a ∷ b ∷ c ∷ []) NoMore (map types cs) → b3.words_of types f cs ≡ Some ws
      → ThreeChildren a b c cs ws
  three_children a b c [] ws taken e = absurd taken
  three_children a b c (d ∷ cs) ws taken e =
      let one = words_cons types f d cs ws e in
      let others = two_children b c cs one.1 taken.1 one.4 in
      record {
        x = d;
        y = others.x;
        z = others.y;
        wx = one.0;
        wy = others.wx;
        wz = others.wy;
        are = ap (λ (l : List ℕ). d ∷ l) others.are;
        words = one.2 ∙ ap (λ (l : List ℕ). one.0 ∷ l) others.words;
        x_now = one.3;
        y_now = others.x_now;
        z_now = others.y_now;
        x_taken = taken.0;
        y_taken = others.x_taken;
        z_taken = others.y_taken;
      }

  -- ---- the same by places

  pub record OneHere (a : Takes) (cs ws : List ℕ) : Type 0 where
    pub wx : ℕ
    pub words : ws ≡ wx ∷ []
    pub x_now : f (child cs 0) ≡ Some wx
    pub x_at : slice_get cs 0 ≡ Some (child cs 0)
    pub x_in : Contains cs (child cs 0)
    pub x_taken : IsTaken alike a (types (child cs 0))

  pub record TwoHere (a b : Takes) (cs ws : List ℕ) : Type 0 where
    pub wx : ℕ
    pub wy : ℕ
    pub words : ws ≡ wx ∷ wy ∷ []
    pub x_now : f (child cs 0) ≡ Some wx
    pub y_now : f (child cs 1) ≡ Some wy
    pub x_at : slice_get cs 0 ≡ Some (child cs 0)
    pub y_at : slice_get cs 1 ≡ Some (child cs 1)
    pub x_in : Contains cs (child cs 0)
    pub y_in : Contains cs (child cs 1)
    pub x_taken : IsTaken alike a (types (child cs 0))
    pub y_taken : IsTaken alike b (types (child cs 1))

  pub record ThreeHere (a b c : Takes) (cs ws : List ℕ) : Type 0 where
    pub wx : ℕ
    pub wy : ℕ
    pub wz : ℕ
    pub words : ws ≡ wx ∷ wy ∷ wz ∷ []
    pub x_now : f (child cs 0) ≡ Some wx
    pub y_now : f (child cs 1) ≡ Some wy
    pub z_now : f (child cs 2) ≡ Some wz
    pub x_at : slice_get cs 0 ≡ Some (child cs 0)
    pub y_at : slice_get cs 1 ≡ Some (child cs 1)
    pub z_at : slice_get cs 2 ≡ Some (child cs 2)
    pub x_in : Contains cs (child cs 0)
    pub y_in : Contains cs (child cs 1)
    pub z_in : Contains cs (child cs 2)
    pub x_taken : IsTaken alike a (types (child cs 0))
    pub y_taken : IsTaken alike b (types (child cs 1))
    pub z_taken : IsTaken alike c (types (child cs 2))

  pub one_here : (a : Takes) (cs ws : List ℕ) → OneChild a cs ws → OneHere a cs ws
  one_here a cs ws o =
      subst (λ (l : List ℕ). OneHere a l ws) (sym o.are)
      (record { wx = o.wx; words = o.words; x_now = o.x_now; x_at = refl; x_in = Contains-first o.x []; x_taken = o.x_taken })

  pub two_here : (a b : Takes) (cs ws : List ℕ) → TwoChildren a b cs ws → TwoHere a b cs ws
  two_here a b cs ws o =
      subst (λ (l : List ℕ). TwoHere a b l ws) (sym o.are)
      (record {
        wx = o.wx;
        wy = o.wy;
        words = o.words;
        x_now = o.x_now;
        y_now = o.y_now;
        x_at = refl;
        y_at = refl;
        x_in = Contains-first o.x (o.y ∷ []);
        y_in = Contains-later o.x (o.y ∷ []) o.y (Contains-first o.y []);
        x_taken = o.x_taken;
        y_taken = o.y_taken;
      })

  pub three_here : (a b c : Takes) (cs ws : List ℕ) → ThreeChildren a b c cs ws → ThreeHere a b c cs ws
  three_here a b c cs ws o =
      subst (λ (l : List ℕ). ThreeHere a b c l ws) (sym o.are)
      (record {
        wx = o.wx;
        wy = o.wy;
        wz = o.wz;
        words = o.words;
        x_now = o.x_now;
        y_now = o.y_now;
        z_now = o.z_now;
        x_at = refl;
        y_at = refl;
        z_at = refl;
        x_in = Contains-first o.x (o.y ∷ o.z ∷ []);
        y_in = Contains-later o.x (o.y ∷ o.z ∷ []) o.y (Contains-first o.y (o.z ∷ []));
        z_in = Contains-later o.x (o.y ∷ o.z ∷ []) o.z (Contains-later o.y (o.z ∷ []) o.z (Contains-first o.z []));
        x_taken = o.x_taken;
        y_taken = o.y_taken;
        z_taken = o.z_taken;
      })

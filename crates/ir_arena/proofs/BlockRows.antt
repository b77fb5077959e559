-- The values of a block and the room after them: one value comes out and goes back, and the last place is filled or emptied. Assumes `Logic`.
use Rattle.std.proofs.Common.{◌≡◌, ℕ, zero, suc, ◌+◌, ◌-◌, ◌*◌, ◌<◌, ◌≤◌, ◌^◌, List, [], ◌∷◌, ◌++◌, length, set, get_or, slice_get, Some, refl, sym, ap, arith, suc-mul, zero-mul, mul-le-mul_right}
use seplogic.Ra.Ura.{Ura}
use base.Fraction.{full_share}
use mir.Syntax.{ty_array}
use base.Logic.{ent, sep}
use base.Fml.{Fml, ftrue, fat, froom}
use borrow.Table.OneValue.{part_out}
use denote.Laws.{Is, shows}
use mir.Val.{Val}
use types.Logic.{Logic, sem}
use types.Kit.{Goal, Item, Seq, some, pick, ‵, ◌⊛◌, ◌$◌, ◌∵◌, !, qed, by, move, use1, use2, split, rewrite, fsplit, fjoin, frame, done}
use denote.Index.{row, place, place_is, others, takes, puts}
use denote.Memory.{part_at, shares}
use denote.Steps.{peeks}
use Rattle.std.proofs.mem.Param.{El, R, el_x, elτ, Good, lawful}
use Rattle.ir_arena.specs.Block.{room_of}
use Rattle.std.specs.Mem.{type_size}

-- a place of the block lies fewer than 2 ^ 63 bytes from its start
pub far_within : (at s : ℕ) → at < 64 → 64 * s < 2 ^ 63 → at * s < 2 ^ 64
far_within at s below small =
    let least : at * s ≤ 64 * s = mul-le-mul_right s (omega (arith, below)) in
    omega (arith, least, small)

pub next_place : (m n s o : ℕ) → m ≡ suc n → n * s + o + s ≡ m * s + o
next_place m n s o e =
    let all : m * s ≡ suc n * s = ap (λ (k : ℕ). k * s) e in
    let one : suc n * s ≡ n * s + s = suc-mul n s in
    omega (arith, all, one)

module _ {A : Type 0} where
  abbrev EndsIn : List A → Type 0
  EndsIn xs = (ys : List A) × (y : A) × (xs ≡ ys ++ y ∷ [])

  one_more : (x : A) (xs : List A) → EndsIn xs → EndsIn (x ∷ xs)
  one_more x xs end = (x ∷ end.0, end.1, ap (λ (l : List A). x ∷ l) end.2)

  -- a list that is not empty has a last value
  pub last_of : (xs : List A) (n : ℕ) → length xs ≡ n + 1 → EndsIn xs
  last_of [] n e = absurd (omega arith)
  last_of (x ∷ []) n e = ([], x, refl)
  last_of (x ∷ y ∷ ys) n e = one_more x (y ∷ ys) (last_of (y ∷ ys) (n - 1) (omega arith))

  -- the value at a place
  pub item_at : (xs : List A) (at : ℕ) → at < length xs → (x : A) × (slice_get xs at ≡ Some x) × (get_or xs at x ≡ x)
  item_at [] at below = absurd (omega arith)
  item_at (x ∷ xs) zero below = (x, refl, refl)
  item_at (x ∷ xs) (suc at) below = item_at xs at (omega arith)

module _ (V : El) where
  -- the bytes of a value
  abbrev pub bytes : ℕ
  bytes = type_size (R V)

  abbrev pub values : List (el_x V) → ℕ → ℕ → Fml
  values xs b o = row (R V) full_share xs b o

  abbrev pub value : el_x V → ℕ → ℕ → Fml
  value x b o = part_at (R V) full_share x b o

  -- all values but the one at a place
  abbrev pub rest_of : List (el_x V) → ℕ → ℕ → ℕ → Fml
  rest_of xs at b o = others (shares (R V)) full_share xs at b o

module _ (V : El) {M : Type 1} {𝓤 : Ura M} (𝓛 : Logic 𝓤) (b : ℕ) where
  abbrev s : ℕ
  s = bytes V

  pub value_out : (xs : List (el_x V)) (at : ℕ) (d : el_x V) (o : ℕ) → at < length xs
      → ent 𝓤 (sem 𝓛 (values V xs b o)) (sep 𝓤 (sem 𝓛 (value V (get_or xs at d) b (at * s + o))) (sem 𝓛 (rest_of V xs at b o)))
  value_out xs at d o below = qed 𝓛 (‵ (values V xs b o) ∷ []) ∵
      use1 𝓛 (‵ (value V (get_or xs at d) b (place s o at)) ⊛ ‵ (rest_of V xs at b o)) (takes (shares (R V)) full_share 𝓛 xs at d b o below) $ split ! $
      rewrite ! 0 (λ (k : ℕ). ‵ (value V (get_or xs at d) b k)) (place_is s o at) refl $ done !

  pub value_back : (xs : List (el_x V)) (at : ℕ) (x : el_x V) (o : ℕ) → at < length xs
      → ent 𝓤 (sep 𝓤 (sem 𝓛 (value V x b (at * s + o))) (sem 𝓛 (rest_of V xs at b o))) (sem 𝓛 (values V (set xs at x) b o))
  value_back xs at x o below = qed 𝓛 (‵ (value V x b (at * s + o)) ∷ ‵ (rest_of V xs at b o) ∷ []) ∵
      rewrite ! 0 (λ (k : ℕ). ‵ (value V x b k)) (sym (place_is s o at)) refl $ by ! (puts (shares (R V)) full_share 𝓛 xs at x b o below)

  -- a value stands right after others
  pub append_value : (xs : List (el_x V)) (x : el_x V) (o : ℕ)
      → ent 𝓤 (sep 𝓤 (sem 𝓛 (values V xs b o)) (sem 𝓛 (value V x b (length xs * s + o)))) (sem 𝓛 (values V (xs ++ x ∷ []) b o))
  append_value [] x o =
      let here : 0 * s + o ≡ o = omega (arith, zero-mul s) in
      qed 𝓛 (‵ ftrue ∷ ‵ (value V x b (0 * s + o)) ∷ []) ∵ rewrite ! 1 (λ (k : ℕ). ‵ (value V x b k)) here refl $ move ! (1 ∷ 0 ∷ []) $ fjoin ! $ done !
  append_value (y ∷ ys) x o =
      let on : suc (length ys) * s + o ≡ length ys * s + (o + s) = omega (arith, suc-mul (length ys) s) in
      qed 𝓛 (‵ (values V (y ∷ ys) b o) ∷ ‵ (value V x b (suc (length ys) * s + o)) ∷ []) ∵ fsplit ! $ move ! (1 ∷ 2 ∷ []) $
      rewrite ! 1 (λ (k : ℕ). ‵ (value V x b k)) on refl $ use2 𝓛 (‵ (values V (ys ++ x ∷ []) b (o + s))) (append_value ys x (o + s)) $ move ! (1 ∷ 0 ∷ []) $ fjoin ! $ done !

  pub split_last : (xs : List (el_x V)) (x : el_x V) (o : ℕ)
      → ent 𝓤 (sem 𝓛 (values V (xs ++ x ∷ []) b o)) (sep 𝓤 (sem 𝓛 (values V xs b o)) (sem 𝓛 (value V x b (length xs * s + o))))
  split_last [] x o =
      let here : o ≡ 0 * s + o = omega (arith, zero-mul s) in
      qed 𝓛 (‵ (values V (x ∷ []) b o) ∷ []) ∵ fsplit ! $ rewrite ! 0 (λ (k : ℕ). ‵ (value V x b k)) here refl $ move ! (1 ∷ 0 ∷ []) $ done !
  split_last (y ∷ ys) x o =
      let on : length ys * s + (o + s) ≡ suc (length ys) * s + o = omega (arith, suc-mul (length ys) s) in
      qed 𝓛 (‵ (values V (y ∷ ys ++ x ∷ []) b o) ∷ []) ∵ fsplit ! $ move ! (1 ∷ []) $
      use1 𝓛 (‵ (values V ys b (o + s)) ⊛ ‵ (value V x b (length ys * s + (o + s)))) (split_last ys x (o + s)) $ split ! $
      rewrite ! 1 (λ (k : ℕ). ‵ (value V x b k)) on refl $ move ! (2 ∷ 0 ∷ []) $ fjoin ! $ done !

  -- the room of a place, before the room of those after it
  pub place_out : (n k : ℕ) (o : ℕ) → n ≡ suc k
      → ent 𝓤 (sem 𝓛 (froom (room_of (R V) n) b o)) (sep 𝓤 (sem 𝓛 (froom (elτ V) b o)) (sem 𝓛 (froom (room_of (R V) k) b (o + s))))
  place_out n k o e = qed 𝓛 (‵ (froom (room_of (R V) n) b o) ∷ []) ∵
      rewrite ! 0 (λ (j : ℕ). ‵ (froom (room_of (R V) j) b o)) e refl $
      use1 𝓛 (‵ (froom (ty_array (elτ V) (suc k)) b o)) (𝓛.laws.raw-room (ty_array (elτ V) (suc k)) b o) $
      use1 𝓛 (‵ (froom (elτ V) b o) ⊛ ‵ (froom (ty_array (elτ V) k) b (o + s))) (𝓛.laws.room_uncons (elτ V) k b o) $ split ! $ frame ! $
      by ! (𝓛.laws.room-raw (ty_array (elτ V) k) b (o + s))

  pub place_back : (n k : ℕ) (o : ℕ) → n ≡ suc k
      → ent 𝓤 (sep 𝓤 (sem 𝓛 (froom (elτ V) b o)) (sem 𝓛 (froom (room_of (R V) k) b (o + s)))) (sem 𝓛 (froom (room_of (R V) n) b o))
  place_back n k o e = qed 𝓛 (‵ (froom (elτ V) b o) ∷ ‵ (froom (room_of (R V) k) b (o + s)) ∷ []) ∵ move ! (1 ∷ []) $
      use1 𝓛 (‵ (froom (ty_array (elτ V) k) b (o + s))) (𝓛.laws.raw-room (ty_array (elτ V) k) b (o + s)) $ move ! (1 ∷ 0 ∷ []) $
      use2 𝓛 (‵ (froom (ty_array (elτ V) (suc k)) b o)) (𝓛.laws.room_cons (elτ V) k b o) $
      use1 𝓛 (‵ (froom (room_of (R V) (suc k)) b o)) (𝓛.laws.room-raw (ty_array (elτ V) (suc k)) b o) $
      rewrite ! 0 (λ (j : ℕ). ‵ (froom (room_of (R V) j) b o)) (sym e) refl $ done !

module _ (V : El) {M : Type 1} {𝓤 : Ura M} {𝓛 : Logic 𝓤} {K : Type 0} {Γ : List (Item 𝓤)} {G : Goal 𝓤 𝓛.H} where
  -- a value is one machine value, of its type: [its cell; what it owns]
  pub value_cell : K → (x : el_x V) (b o : ℕ) → ((v : Val) → Good V v → Seq K 𝓛 (‵ (fat full_share (elτ V) b o v) ∷ ‵ (V.row.own_val x (v ∷ [])) ∷ Γ) G) → Seq K 𝓛 (‵ (value V x b o) ∷ Γ) G
  value_cell t x b o k =
      use1 𝓛 (some (λ (v : Val). ‵ (fat full_share (elτ V) b o v) ⊛ ‵ (V.row.own_val x (v ∷ [])))) (part_out 𝓛 (R V) refl full_share x b o) $ pick t (λ v. split t $ move t (1 ∷ []) $
      peeks t (R V) (Is (R V)) (shows 𝓛 (R V)) x (v ∷ []) (λ is. move t (1 ∷ 0 ∷ []) $ k v ((lawful V 𝓛).typed x (v ∷ []) is).0))

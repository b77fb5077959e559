-- The moves that are left, by their places.
use Rattle.std.proofs.Common.{◌≡◌, ℕ, zero, suc, ◌<◌, ◌⊎◌, inl, inr, Bool, true, false, if◌then◌else◌, List, [], ◌∷◌, ◌++◌, length, map, arith, refl, sym, ap, ◌∙◌, subst}
use Rattle.std.specs.Prelude.{Contains, IfSome, Option, Some, None, not, slice_index_or, slice_set}
use Rattle.std.proofs.lemmas.Bool.{false≢true}
use Rattle.air_shuffle.specs.Moves.{Move, is_self}
use Rattle.air_shuffle.specs.Pending.{Differ, Has}
use Rattle.air_shuffle.specs.Waiting.{IsSequenceable, left_of, move_at, no_move}
use Rattle.air_shuffle.proofs.Lists.{has-one}
use Rattle.air_shuffle.proofs.Shuffles.{IsWithoutSelf}

-- a move of the first k places is left
pub record Earlier (ms : List Move) (ls : List Bool) (k : ℕ) (d : Move) : Type 0 where
  pub at : ℕ
  pub before : at < k
  pub left : slice_index_or ls at false ≡ true
  pub is : d ≡ move_at ms at

-- a move that is left stands between others
pub record Splits (ms : List Move) (ls : List Bool) (k : ℕ) : Type 0 where
  pub before : List Move
  pub after : List Move
  pub whole : left_of ms ls ≡ before ++ move_at ms k ∷ after
  pub gone : left_of ms (slice_set ls k false) ≡ before ++ after
  pub changed : (c : Move) → left_of (slice_set ms k c) ls ≡ before ++ c ∷ after
  pub earlier : (d : Move) → Has d before → Earlier ms ls k d

earlier-next : (b : Bool) (c d : Move) (cs : List Move) (bs : List Bool) (k : ℕ) → Earlier cs bs k d → Earlier (c ∷ cs) (b ∷ bs) (suc k) d
earlier-next b c d cs bs k e = record { at = suc e.at; before = (let lt = e.before in omega arith); left = e.left; is = e.is }

splits-later : (b : Bool) (c : Move) (cs : List Move) (bs : List Bool) (k : ℕ) → Splits cs bs k → Splits (c ∷ cs) (b ∷ bs) (suc k)
unfolding left_of Has
splits-later true c cs bs k r = record {
  before = c ∷ r.before;
  after = r.after;
  whole = ap (λ (l : List Move). c ∷ l) r.whole;
  gone = ap (λ (l : List Move). c ∷ l) r.gone;
  changed = λ d. ap (λ (l : List Move). c ∷ l) (r.changed d);
  earlier = λ d h. elim h [
    | inl here ↦ record { at = 0; before = omega arith; left = refl; is = here }
    | inr there ↦ earlier-next true c d cs bs k (r.earlier d there)
  ];
}
splits-later false c cs bs k r = record {
  before = r.before;
  after = r.after;
  whole = r.whole;
  gone = r.gone;
  changed = r.changed;
  earlier = λ d h. earlier-next false c d cs bs k (r.earlier d h);
}

pub splits : (ms : List Move) (ls : List Bool) (k : ℕ) → k < length ms → length ls ≡ length ms → slice_index_or ls k false ≡ true → Splits ms ls k
unfolding left_of Has
splits [] ls k lt many left = absurd (omega arith)
splits (c ∷ cs) [] k lt many left = absurd (false≢true left)
splits (c ∷ cs) (false ∷ bs) zero lt many left = absurd (false≢true left)
splits (c ∷ cs) (true ∷ bs) zero lt many left = record { before = []; after = left_of cs bs; whole = refl; gone = refl; changed = λ d. refl; earlier = λ d h. absurd h }
splits (c ∷ cs) (b ∷ bs) (suc k) lt many left = splits-later b c cs bs k (splits cs bs k (omega arith) (omega arith) left)

-- a move that is left has a place
pub record Place (ms : List Move) (ls : List Bool) (c : Move) : Type 0 where
  pub at : ℕ
  pub within : at < length ms
  pub left : slice_index_or ls at false ≡ true
  pub is : c ≡ move_at ms at

later : (b : Bool) (d c : Move) (cs : List Move) (bs : List Bool) → Place cs bs c → Place (d ∷ cs) (b ∷ bs) c
later b d c cs bs r = record { at = suc r.at; within = let lt = r.within in omega arith; left = r.left; is = r.is }

pub place_of : (ms : List Move) (ls : List Bool) (c : Move) → Has c (left_of ms ls) → Place ms ls c
unfolding left_of Has
place_of [] ls c h = absurd h
place_of (d ∷ cs) [] c h = absurd h
place_of (d ∷ cs) (false ∷ bs) c h = later false d c cs bs (place_of cs bs c h)
place_of (d ∷ cs) (true ∷ bs) c (inl e) = record { at = zero; within = omega arith; left = refl; is = e }
place_of (d ∷ cs) (true ∷ bs) c (inr h) = later true d c cs bs (place_of cs bs c h)

pub left_has : (ms : List Move) (ls : List Bool) (k : ℕ) → k < length ms → length ls ≡ length ms → slice_index_or ls k false ≡ true → Has (move_at ms k) (left_of ms ls)
left_has ms ls k lt many left = let r = splits ms ls k lt many left in subst (Has (move_at ms k)) (sym r.whole) (has-one (move_at ms k) r.before r.after)

pub none_left : (ms : List Move) (ls : List Bool) → ((k : ℕ) → k < length ms → slice_index_or ls k false ≡ false) → left_of ms ls ≡ []
unfolding left_of
none_left [] ls none = refl
none_left (c ∷ cs) [] none = refl
none_left (c ∷ cs) (b ∷ bs) none =
    rw (none 0 (omega arith)) (none_left cs bs (λ k lt. none (suc k) (omega arith)))

-- ---- at first all are left but those from a home to itself
abbrev pub others : List Move → List Bool
others ms = map (λ (c : Move). not (is_self c)) ms

from-others : (c d : Move) (cs : List Move) (b : Bool) → b ≡ not (is_self d) → Has c (if b then d ∷ left_of cs (others cs) else left_of cs (others cs))
    → (Has c (left_of cs (others cs)) → Has c cs) → Has c (d ∷ cs)
unfolding Has
from-others c d cs true e (inl here) rest = inl here
from-others c d cs true e (inr h) rest = inr (rest h)
from-others c d cs false e h rest = inr (rest h)

pub others-from : (c : Move) (ms : List Move) → Has c (left_of ms (others ms)) → Has c ms
unfolding left_of
others-from c [] h = h
others-from c (d ∷ cs) h = from-others c d cs (not (is_self d)) refl h (others-from c cs)

to-others : (c d : Move) (cs : List Move) (self : Bool) → self ≡ is_self d → Has c (d ∷ cs) → (Has c cs → Has c (left_of cs (others cs)) ⊎ (is_self c ≡ true))
    → Has c (if not self then d ∷ left_of cs (others cs) else left_of cs (others cs)) ⊎ (is_self c ≡ true)
unfolding Has
to-others c d cs true e (inl here) rest = inr (ap is_self here ∙ sym e)
to-others c d cs false e (inl here) rest = inl (inl here)
to-others c d cs true e (inr h) rest = rest h
to-others c d cs false e (inr h) rest = elim (rest h) [ inl r ↦ inl (inr r) | inr self ↦ inr self ]

pub others-to : (c : Move) (ms : List Move) → Has c ms → Has c (left_of ms (others ms)) ⊎ (is_self c ≡ true)
unfolding left_of Has
others-to c [] h = absurd h
others-to c (d ∷ cs) h = to-others c d cs (is_self d) refl h (others-to c cs)

pub without_self : (ms : List Move) → IsWithoutSelf ms (left_of ms (others ms))
without_self ms = record { from = λ c h. others-from c ms h; rest = λ c h. others-to c ms h }

self-left : (c d : Move) (cs : List Move) (b : Bool) → b ≡ is_self d → Has c (if not b then d ∷ left_of cs (others cs) else left_of cs (others cs))
    → (Has c (left_of cs (others cs)) → is_self c ≡ false) → is_self c ≡ false
unfolding Has
self-left c d cs true e h rest = rest h
self-left c d cs false e (inl here) rest = ap is_self here ∙ sym e
self-left c d cs false e (inr h) rest = rest h

pub others-self : (c : Move) (ms : List Move) → Has c (left_of ms (others ms)) → is_self c ≡ false
unfolding left_of Has
others-self c [] h = absurd h
others-self c (d ∷ cs) h = self-left c d cs (is_self d) refl h (others-self c cs)

-- ---- lists of moves whose destinations differ
pub has-place : (c : Move) (ms : List Move) → Has c ms → (k : ℕ) × (k < length ms) × (c ≡ move_at ms k)
unfolding Has
has-place c [] h = absurd h
has-place c (d ∷ ms) (inl e) = (zero, omega arith, e)
has-place c (d ∷ ms) (inr h) = let r = has-place c ms h in (suc r.0, (let lt = r.1 in omega arith), r.2)

pub has-contains : (c : Move) (ms : List Move) → Has c ms → Contains ms c
unfolding Has
has-contains c [] h = absurd h
has-contains c (d ∷ ms) (inl e) = (zero, omega arith, sym e)
has-contains c (d ∷ ms) (inr h) = let r = has-contains c ms h in (suc r.0, (let lt = r.1 in omega arith), r.2)

pub differ-at : (ms : List Move) → ((i k : ℕ) → i < length ms → k < length ms → (move_at ms i).to ≡ (move_at ms k).to → i ≡ k) → Differ ms
unfolding Differ
differ-at [] apart = tt
differ-at (c ∷ ms) apart = (
  λ d h same.
      let r = has-place d ms h in
      let e : suc r.0 ≡ 0 = apart (suc r.0) 0 (let lt = r.1 in omega arith) (omega arith) (sym (ap (λ (k : Move). k.to) r.2) ∙ same) in
      absurd (omega arith),
  differ-at ms (λ i k lt lt' e. let s : suc i ≡ suc k = apart (suc i) (suc k) (omega arith) (omega arith) e in omega arith),
)

-- a part of such moves
left-from : (m : Move) (ms : List Move) (ls : List Bool) → Has m (left_of ms ls) → Has m ms
unfolding Has left_of
left-from m [] ls h = h
left-from m (n ∷ ns) [] h = absurd h
left-from m (n ∷ ns) (true ∷ bs) (inl e) = inl e
left-from m (n ∷ ns) (true ∷ bs) (inr h) = inr (left-from m ns bs h)
left-from m (n ∷ ns) (false ∷ bs) h = inr (left-from m ns bs h)

differ-left : (ms : List Move) (ls : List Bool) → Differ ms → Differ (left_of ms ls)
unfolding Differ left_of
differ-left [] ls d = tt
differ-left (c ∷ cs) [] d = tt
differ-left (c ∷ cs) (true ∷ bs) d = ((λ m h. d.0 m (left-from m cs bs h)), differ-left cs bs d.1)
differ-left (c ∷ cs) (false ∷ bs) d = differ-left cs bs d.1

pub differ_left : (ms : List Move) (ls : List Bool) → IsSequenceable ms → Differ (left_of ms ls)
differ_left ms ls fine = differ-left ms ls (differ-at ms fine.differ)

-- ---- what is read at a place

pub read_at : {A : Type 0} (xs : List A) (k : ℕ) (x d : A) → k < length xs → x ≡ slice_index_or xs k x → x ≡ slice_index_or xs k d
read_at [] k x d lt e = absurd (omega arith)
read_at (y ∷ xs) zero x d lt e = e
read_at (y ∷ xs) (suc k) x d lt e = read_at xs k x d (omega arith) e

pub read_move : (ms : List Move) (k : ℕ) (m : Move) → k < length ms → m ≡ slice_index_or ms k m → m ≡ move_at ms k
read_move ms k m lt e = read_at ms k m no_move lt e

pub if_some : {A : Type 0} (w : Option A) (P : A → Type 0) → ((j : A) → w ≡ Some j → P j) → IfSome w P
if_some None P h = tt
if_some (Some j) P h = h j refl

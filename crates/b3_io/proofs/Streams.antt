-- What a stream moved so far, piece by piece.
use Rattle.std.proofs.Common.{◌≡◌, ℕ, ◌+◌, ◌-◌, ◌<◌, ◌≤◌, List, ◌++◌, Option, Result, Ok, Err, IfErr, length, take, drop, sym, ap, subst, ◌∙◌, append_assoc, take-append-drop, length-append, length-take-le, length-drop, arith}
use Rattle.std.proofs.Math.Seq.{take-append_seam, take-length}
use Rattle.std.proofs.KnownBytes.{Appends-trans, Appends-kept, Consumes-trans}
use Rattle.std.specs.Io.KnownBytes.{Consumes, Appends, Keeps}
use Rattle.b3_io.specs.Taken.{Takes}

-- a sink went from `before` to `now` by the front of these bytes, up to `rest`
pub record HasSent (before now : Option (List ℕ)) (bytes rest : List ℕ) : Type 0 where
  pub sent : List ℕ
  pub split : bytes ≡ sent ++ rest
  pub appended : Appends before now sent

-- it took n more
pub HasSent-more : (before now after : Option (List ℕ)) (bytes rest : List ℕ) (n : ℕ)
    → HasSent before now bytes rest → Appends now after (take n rest)
    → HasSent before after bytes (take (length rest - n) (drop n rest))
HasSent-more before now after bytes rest n h more =
    let whole : take (length rest - n) (drop n rest) ≡ drop n rest =
    ap (λ k. take k (drop n rest)) (sym (length-drop n rest)) ∙ take-length (drop n rest) in
    let parts : rest ≡ take n rest ++ take (length rest - n) (drop n rest) =
    sym (take-append-drop n rest) ∙ ap (λ l. take n rest ++ l) (sym whole) in record {
      sent = h.sent ++ take n rest;
      split = h.split ∙ ap (λ l. h.sent ++ l) parts ∙ sym (append_assoc h.sent (take n rest) _);
      appended = Appends-trans before now after h.sent (take n rest) h.appended more;
    }

-- it took nothing of a rest that isn't empty
pub HasSent-prefix : (before now after : Option (List ℕ)) (bytes rest : List ℕ)
    → HasSent before now bytes rest → 0 < length rest → Keeps now after
    → (count : ℕ) × (count < length bytes) × Appends before after (take count bytes)
HasSent-prefix before now after bytes rest h more kept =
    let total : length bytes ≡ length h.sent + length rest = ap length h.split ∙ length-append h.sent rest in
    let front : take (length h.sent) bytes ≡ h.sent =
    ap (take (length h.sent)) h.split ∙ take-append_seam h.sent rest in (
      length h.sent,
      omega arith,
      subst (Appends before after) (sym front) (Appends-kept before now after h.sent h.appended kept),
    )

-- a source gave these bytes, and then the first n of a chunk
pub Takes-more : (P : ℕ → Type 0) (n : ℕ) (old now after : Option (List ℕ)) (bytes chunk : List ℕ)
    → Consumes old now bytes → Consumes now after (take n chunk) → n ≤ length chunk
    → P (length bytes + n) → Takes P old after
Takes-more P n old now after bytes chunk h more fits count =
    let total : length (bytes ++ take n chunk) ≡ length bytes + n =
    length-append bytes (take n chunk) ∙ ap (λ k. length bytes + k) (length-take-le n chunk fits) in record {
      taken = bytes ++ take n chunk;
      count = subst P (sym total) count;
      consumed = Consumes-trans old now after bytes (take n chunk) h more;
    }

-- a fact holds whatever the error is
pub IfErr-fact : {A E : Type 0} (r : Result A E) (P : E → Type 0) (Q : Type 0) → Q → IfErr r (λ e. P e → Q)
IfErr-fact (Ok a) P Q q = tt
IfErr-fact (Err e) P Q q = λ _. q

use Rattle.std.proofs.Common.{◌≡◌, ℕ, suc, ◌+◌, ◌-◌, ◌*◌, ◌<◌, ◌≤◌, ◌^◌, List, [], ◌∷◌, ◌++◌, length, sum_by, drop, refl, sym, ap, subst, ◌∙◌, append_assoc, arith}
use Rattle.std.specs.List.{AllByRecursion}
use Rattle.std.proofs.lemmas.List.{length-drop}
use Rattle.std.proofs.lemmas.List.Sums.{sum_by-cons}
use Rattle.elf_obj.specs.declared.object.Symbol.{Symbol}
use Rattle.elf_obj.specs.Reading.{long_at, name_in, symbols_at}
use Rattle.elf_obj.proofs.symbols.symbols_at.Goals as goal

module _ (names : List ℕ) (name_at count i : ℕ) (left : List ℕ) where
  abbrev name : List ℕ
  name = name_in (drop name_at names)

  abbrev first : Symbol
  first = record { name = name; offset = long_at 8 left; size = long_at 16 left }

  abbrev later : List Symbol
  later = symbols_at names (name_at + length name + 1) (count - (i + 1)) (drop 24 left)

  one_more : i < count → symbols_at names name_at (count - i) left ≡ first ∷ later
  one_more lt =
      let k : count - i ≡ suc (count - (i + 1)) = omega arith in
      ap (λ (n : ℕ). symbols_at names name_at n left) k

  abbrev IsSmall : Symbol → Type 0
  IsSmall symbol = symbol.offset + symbol.size < 2 ^ 32

  smalls : i < count → AllByRecursion IsSmall (symbols_at names name_at (count - i) left) → (first.offset + first.size < 2 ^ 32) × AllByRecursion IsSmall later
  smalls lt all = subst (AllByRecursion IsSmall) (one_more lt) all

  ends : i < count → (limit : ℕ) → name_at + sum_by (λ symbol. length symbol.name + 1) (symbols_at names name_at (count - i) left) < limit → name_at + length name + 1 + sum_by (λ symbol. length symbol.name + 1) later < limit
  ends lt limit below =
      let sums : sum_by (λ (symbol : Symbol). length symbol.name + 1) (symbols_at names name_at (count - i) left) ≡ length name + 1 + sum_by (λ (symbol : Symbol). length symbol.name + 1) later =
      ap (λ (t : List Symbol). sum_by (λ symbol. length symbol.name + 1) t) (one_more lt) ∙ sum_by-cons (λ (symbol : Symbol). length symbol.name + 1) first later in
      omega (arith, sums, below)

  -- the rest behind a symbol, as the loop has it
  rest_is : (name_now left_after : List ℕ) → name_now ≡ name → left_after ≡ drop 24 left → symbols_at names (name_at + (length name_now + 1)) (count - (i + 1)) left_after ≡ later
  rest_is name_now left_after is_name is_left =
      let k : name_at + (length name_now + 1) ≡ name_at + length name_now + 1 = omega arith in
      ap (λ (n : ℕ). symbols_at names n (count - (i + 1)) left_after) k ∙ ap (λ (t : List ℕ). symbols_at names (name_at + length t + 1) (count - (i + 1)) left_after) is_name ∙ ap (λ (t : List ℕ). symbols_at names (name_at + length name + 1) (count - (i + 1)) t) is_left

  grown : (symbols pushed total : List Symbol) (item : Symbol) (rest : List Symbol) → i < count → pushed ≡ symbols ++ item ∷ [] → item ≡ first → rest ≡ later → symbols ++ symbols_at names name_at (count - i) left ≡ total → pushed ++ rest ≡ total
  grown symbols pushed total item rest lt push is behind so_far =
      ap (λ (t : List Symbol). t ++ rest) push ∙ ap (λ (t : List Symbol). symbols ++ item ∷ [] ++ t) behind ∙ ap (λ (s : Symbol). symbols ++ s ∷ [] ++ later) is ∙ append_assoc symbols (first ∷ []) later ∙ ap (λ (t : List Symbol). symbols ++ t) (sym (one_more lt)) ∙ so_far

pub overflow_cast-long_at : goal.overflow_cast-long_at
overflow_cast-long_at c =
    let small = smalls c.args.names.now c.loop.name_at c.args.count c.loop.counter c.loop.left.now c.loop-test.true c.loop.invariant.2 in
    omega (arith, small.0, c.long_at.ensures)

pub overflow_cast-long_at-in-loop : goal.overflow_cast-long_at-in-loop
overflow_cast-long_at-in-loop c =
    let small = smalls c.args.names.now c.loop.name_at c.args.count c.loop.counter c.loop.left.now c.loop-test.true c.loop.invariant.2 in
    omega (arith, small.0, c.long_at-in-loop.ensures)

pub loop-preserved : goal.loop-preserved
loop-preserved c =
    let l = c.loop in
    let lt : l.counter < c.args.count = c.loop-test.true in
    let small = smalls c.args.names.now l.name_at c.args.count l.counter l.left.now lt l.invariant.2 in
    let name_is : c.name_in-name.result.now ≡ name_in (drop l.name_at c.args.names.now) = c.name_in-name.ensures ∙ ap (λ (t : List ℕ). name_in t) c.behind.ensures in
    let copied : c.extend.new.self ≡ name_in (drop l.name_at c.args.names.now) = c.in_ok-extend.ensures.ok ∙ ap (λ (t : List ℕ). t ++ c.name_in-name.result.now) c.new-copy.ensures ∙ name_is in
    let long : 24 * (c.args.count - l.counter) ≤ length l.left.now = l.invariant.1 in
    let left_is : length c.behind-left.result.now ≡ length l.left.now - 24 = ap (λ (t : List ℕ). length t) c.behind-left.ensures ∙ length-drop 24 l.left.now in
    let rest = rest_is c.args.names.now l.name_at c.args.count l.counter l.left.now c.name_in-name.result.now c.behind-left.result.now name_is c.behind-left.ensures in
    let item : Symbol = record { name = c.extend.new.self; offset = c.long_at.result; size = c.long_at-in-loop.result } in
    let item_is : item ≡ record { name = name_in (drop l.name_at c.args.names.now); offset = long_at 8 l.left.now; size = long_at 16 l.left.now } = rw (copied, c.long_at.ensures, c.long_at-in-loop.ensures) refl in
    let below = ends c.args.names.now l.name_at c.args.count l.counter l.left.now lt (2 ^ 63) l.invariant.3 in (
      grown c.args.names.now l.name_at c.args.count l.counter l.left.now l.symbols c.push.new.self _ item _ lt c.in_ok-push.ensures.ok item_is rest l.invariant.0,
      omega arith,
      subst (AllByRecursion (λ symbol. symbol.offset + symbol.size < 2 ^ 32)) (sym rest) small.1,
      omega (arith, below, ap (λ (t : List Symbol). sum_by (λ symbol. length symbol.name + 1) t) rest, ap (λ (t : List ℕ). length t) name_is),
    )

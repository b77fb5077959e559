use Rattle.std.proofs.Common.{◌≡◌, ℕ, suc, ◌+◌, ◌-◌, ◌++◌, List, [], map, append-nil, sym, ◌∙◌, ap, arith}
use Rattle.b3_rows.specs.Written.{members_from, reg_text}
use Rattle.b3_written.specs.Listed.{listed, member_texts}
use Rattle.b3_written.proofs.ListedLemmas.{listed_none, members_next, members_none, part_step}
use Rattle.b3_written.proofs.items.put_members.Goals as goal

pub loop-r-preserved : goal.loop-r-preserved
loop-r-preserved c =
    let left = 31 - (c.loop-r.r + 1) in
    let more : suc left ≡ 31 - c.loop-r.r = omega arith in (
      part_step c.loop-r.some c.in_ok-some.some c.loop-r.out c.put_member.new.out (member_texts c.args.set c.loop-r.r) (map reg_text
          (members_from c.args.set (c.loop-r.r + 1) left)) c.in_ok-some.ensures.text c.in_ok-some.ensures.some
          ∙ ap (λ (ts : List (List ℕ)). c.loop-r.out ++ listed c.loop-r.some ts) (sym (members_next c.args.set c.loop-r.r left))
          ∙ ap (λ (k : ℕ). c.loop-r.out ++ listed c.loop-r.some (map reg_text (members_from c.args.set c.loop-r.r k))) more
          ∙ c.loop-r.invariant.0,
      omega arith,
    )

pub returns : goal.returns
returns c =
    let none : 31 - c.loop-r.r ≡ 0 = omega arith in
    let gone : listed c.loop-r.some (map reg_text (members_from c.args.set c.loop-r.r (31 - c.loop-r.r))) ≡ [] = rw (
      none,
      members_none c.args.set c.loop-r.r,
    ) (listed_none c.loop-r.some) in
    sym (append-nil c.loop-r.out) ∙ ap (λ (t : List ℕ). c.loop-r.out ++ t) (sym gone) ∙ c.loop-r.invariant.0

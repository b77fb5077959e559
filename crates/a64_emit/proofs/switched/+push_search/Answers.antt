use Rattle.std.proofs.Common.{◌+◌, ◌-◌, ◌/◌, ◌<◌, ◌^◌, length, drop, ap, arith, rules}
use Rattle.std.proofs.lemmas.List.Elements.{All-drop, All-take}
use Rattle.std.proofs.lemmas.Result.{IfOk-weaker, on_ok_weaker}
use Rattle.b3_base.specs.Word.{bits}
use Rattle.a64_emit.specs.Trees.{node_count, tree}
use Rattle.a64_emit.specs.declared.case.Case.{Case}
use Rattle.a64_emit.proofs.SwitchPushing.{search_few, search_more}
use Rattle.a64_emit.proofs.Trees.{count_few, count_more, rest_is}
use Rattle.a64_emit.proofs.switched.+push_search.Goals as goal

pub returns-then-cases-le3-clause-code : goal.returns-then-cases-le3-clause-code
returns-then-cases-le3-clause-code t c =
    search_few c.args.width c.args.reg c.args.other c.args.next c.args.label c.args.cases.now c.args.code.now c.push_cases.new.code c.push_jump.new.code
    (omega arith) c.in_ok-push_cases.ensures c.in_ok-push_jump.ensures

pub returns-then-cases-le3-clause-label : goal.returns-then-cases-le3-clause-label
returns-then-cases-le3-clause-label t c = let none = count_few c.args.cases.now (omega arith) in omega arith

pub overflow_add-label : goal.overflow_add-label
overflow_add-label t c =
    let count = count_more c.args.cases.now (record { word = 0; target = 0 }) (omega arith) in omega (arith, c.requires.labels)

pub push_search-requires : goal.push_search-requires
push_search-requires t c =
    let count = count_more c.args.cases.now (record { word = 0; target = 0 }) (omega arith) in (
      search rules,
      (
        All-take (λ (case : Case). case.word < 2 ^ bits c.args.width) (length c.args.cases.now / 2) c.args.cases.now c.requires.small,
        omega (arith, c.requires.labels),
      ),
    )

pub push_search-requires-2 : goal.push_search-requires-2
push_search-requires-2 t c =
    let count = count_more c.args.cases.now (record { word = 0; target = 0 }) (omega arith) in
    let same = ap (λ xs. node_count (tree xs)) (rest_is c.args.cases.now) in (
      search rules,
      (
        All-take (λ (case : Case). case.word < 2 ^ bits c.args.width) (length c.args.cases.now - (length c.args.cases.now / 2 + 1))
            (drop (length c.args.cases.now / 2 + 1) c.args.cases.now)
            (All-drop (λ (case : Case). case.word < 2 ^ bits c.args.width) (length c.args.cases.now / 2 + 1) c.args.cases.now c.requires.small),
        omega (arith, c.requires.labels, c.in_ok-free.ensures.label),
      ),
    )

pub returns-clause-code : goal.returns-clause-code
returns-clause-code t c =
    on_ok_weaker c.push_search-2.result
    (search_more c.args.width c.args.reg c.args.other c.args.next c.args.label c.args.cases.now _ c.args.code.now c.push_compare.new.code c.push.new.self
    c.push-2.new.self c.push_search.new.code c.push-3.new.self c.push_search-2.new.code c.in_ok-free.free _ (omega arith) (rest_is c.args.cases.now)
    c.in_ok-push_compare.ensures c.in_ok-push.ensures.ok c.in_ok-push-2.ensures.ok c.in_ok-free.ensures.code c.in_ok-free.ensures.label
    c.in_ok-push-3.ensures.ok)
    c.push_search-2.ensures.code

pub returns-clause-label : goal.returns-clause-label
returns-clause-label t c =
    let count = count_more c.args.cases.now (record { word = 0; target = 0 }) (omega arith) in
    let same = ap (λ xs. node_count (tree xs)) (rest_is c.args.cases.now) in
    IfOk-weaker c.push_search-2.result _ _ (λ free e. omega (arith, c.in_ok-free.ensures.label)) c.push_search-2.ensures.label

use Rattle.std.proofs.Common.{ap, sym, ◌∙◌, arith}
use Rattle.a64_layout.specs.Text.{chosen, words_before}
use Rattle.a64_layout.proofs.Flags.{chosen_at}
use Rattle.a64_layout.proofs.Words.{words-zero, can_stand, goes_below, has_room, pushed_next}
use Rattle.a64_layout.proofs.text.text_words.Goals as goal

pub loop-at-init : goal.loop-at-init
loop-at-init c = c.new-words.ensures ∙ sym (words-zero c.args.code.now (chosen c.args.long.now))

pub push_item-requires-clause-room : goal.push_item-requires-clause-room
push_item-requires-clause-room c =
    let flag_is = chosen_at c.args.long.now c.loop-at.at c.get-in-loop-at.result.now c.get-in-loop-at.ensures in
    has_room c.args.code.now c.requires.good (chosen c.args.long.now) c.args.labels.now c.requires.count c.requires.places c.loop-at.at
    c.get-in-loop-at.result.now c.get.result.now c.loop-at.words c.get.ensures flag_is c.loop-at.invariant

pub push_item-requires-clause-named : goal.push_item-requires-clause-named
push_item-requires-clause-named c =
    goes_below c.args.code.now c.requires.good (chosen c.args.long.now) c.args.labels.now c.requires.count c.requires.places c.loop-at.at
    c.get.result.now c.get.ensures

pub push_item-requires-clause-stands : goal.push_item-requires-clause-stands
push_item-requires-clause-stands c =
    let flag_is = chosen_at c.args.long.now c.loop-at.at c.get-in-loop-at.result.now c.get-in-loop-at.ensures in
    can_stand c.args.code.now c.requires.good (chosen c.args.long.now) c.args.labels.now c.requires.count c.requires.places c.requires.least.enough
    c.loop-at.at c.get-in-loop-at.result.now c.get.result.now c.loop-at.words c.get.ensures flag_is c.loop-at.invariant

pub loop-at-preserved : goal.loop-at-preserved
loop-at-preserved c =
    let flag_is = chosen_at c.args.long.now c.loop-at.at c.get-in-loop-at.result.now c.get-in-loop-at.ensures in
    pushed_next c.args.code.now c.requires.good (chosen c.args.long.now) c.args.labels.now c.requires.count c.requires.places c.loop-at.at
    c.get-in-loop-at.result.now c.get.result.now c.loop-at.words c.push_item.new.words c.get.ensures flag_is c.loop-at.invariant c.in_ok-push_item.ensures

pub returns : goal.returns
returns c = c.loop-at.invariant ∙ ap (words_before c.args.code.now (chosen c.args.long.now)) (omega arith)

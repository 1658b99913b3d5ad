-- `lists::load::keep_lists` meets its contract: the parts are written one after the other (`lists_written`).
use Rattle.std.proofs.Common.{◌≡◌, ℕ, ◌+◌, ◌/◌, List, length, ap, ◌∙◌, arith}
use Rattle.lists.specs.HowKeep.{fours_kept}
use Rattle.lists.specs.Obey.{tables_of}
use Rattle.lists.proofs.Keep.{lists_obey_lem, tables_ranking}
use Rattle.lists.proofs.Numbers.{filled_fours}
use Rattle.lists.proofs.Ranks.{words_few}
use Rattle.lists.proofs.Back.{lists_written}
use Rattle.lists.proofs.load.keep_lists.Goals as goal

pub copy_in-requires : goal.copy_in-requires
copy_in-requires c =
    let o = lists_obey_lem c.args.area c.args.ios.now c.args.tables.now c.requires.obey in
    omega (arith, o.ios_few)

pub keep_numbers-requires : goal.keep_numbers-requires
keep_numbers-requires c =
    let o = lists_obey_lem c.args.area c.args.ios.now c.args.tables.now c.requires.obey in
    (omega (arith, o.ios_few), omega (arith, o.ios_few, c.requires.long))

pub copy_in-requires-2 : goal.copy_in-requires-2
copy_in-requires-2 c =
    let o = lists_obey_lem c.args.area c.args.ios.now c.args.tables.now c.requires.obey in
    omega (arith, words_few (tables_of c.args.tables.now), o.tables_few, ap length c.requires.words, c.requires.long)

pub keep_ranks-requires : goal.keep_ranks-requires
keep_ranks-requires c =
    tables_ranking c.args.area c.args.ios.now c.args.tables.now c.requires.small c.requires.obey _ _ c.requires.words
    (omega arith)

pub returns : goal.returns
returns c =
    let ios = c.args.ios.now in
    let o = lists_obey_lem c.args.area ios c.args.tables.now c.requires.obey in
    let n : c.div_ceil.result ≡ (length ios + 3) / 4 = omega arith in
    lists_written c.args.area ios c.args.tables.now c.args.lists.now c.requires.small c.requires.obey
    c.requires.long _ _ _ _ _ c.requires.words
    (ap (λ (l : List ℕ). fours_kept l ((length ios + 3) / 4))
    c.copy_in.ensures ∙ filled_fours 128 ios o.ios_few)
    (rw n at c.keep_numbers.ensures)
    c.copy_in-2.ensures c.keep_ranks.ensures

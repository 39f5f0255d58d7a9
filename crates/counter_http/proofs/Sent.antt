-- A branch is sent what its own machine answers. So it is sent the same whenever it sees the same.
use Rattle.shop_types.proofs.Common.{◌∙◌, ap, sym, map, List, flat_map, State, Input, replies, Answer, answer_of, state_of}
use Rattle.shop_types.specs.LimitValues.{Limits}
use Rattle.shop_model.proofs.SameStates.{told_same}
use Rattle.branch_work.specs.Rules.{rules_of}
use Rattle.counter_http.specs.Exchanges.{text_of}
use Rattle.counter_http.specs.Branches.{BranchesAreSentTheSame, seen_of}

pub sent_the_same : BranchesAreSentTheSame
sent_the_same b meaning second exchanges others old new other another ran ran' agree seen =
    let here = ran.branches agree.numbers b in
    let there = ran'.branches agree.numbers_too b in
    let told : Limits → List Input → State → List Answer = λ limits view state. map answer_of (replies (rules_of limits) b view state) in
    let view = seen_of second (rules_of other.limits) b others other.books in
    let middle = ap (λ (l : Limits). told l (seen_of meaning (rules_of old.limits) b exchanges old.books) (state_of b old.books)) agree.limits
    ∙ ap (λ (v : List Input). told other.limits v (state_of b old.books)) seen
    ∙ ap (map answer_of) (told_same (rules_of other.limits) b view (state_of b old.books) (state_of b other.books) agree.shop).replies in
    ap (λ (answers : List Answer). flat_map text_of answers) (here.told ∙ middle ∙ sym there.told)

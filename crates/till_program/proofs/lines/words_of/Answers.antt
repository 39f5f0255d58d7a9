use Rattle.std.proofs.Common.{◌≡◌, ◌++◌, ◌∷◌, [], map}
use Rattle.std.proofs.lemmas.Result.{err_from_is_err_and}
use Rattle.std.proofs.lemmas.List.{map_push}
use Rattle.till_program.specs.Reading.{words_at}
use Rattle.till_program.proofs.WordLoop.{goes_on, ends, is_done}
use Rattle.till_program.proofs.lines.words_of.Goals as goal

pub returns-in_err-word : goal.returns-in_err-word
returns-in_err-word c =
    let p = err_from_is_err_and c.from_residual.result c.from_residual.ensures.1 in
    rw (p.1, p.2)
    (ends c.in_err-word.field-0.0 (map (λ v. v.items) c.loop.words.items) c.args.count c.loop.counter c.loop.rest.now
    (words_at c.args.count c.args.bytes.now) c.loop-test.true c.in_err-word.ensures c.loop.invariant)

pub loop-preserved : goal.loop-preserved
loop-preserved c =
    let e : map (λ v. v.items) c.push.new.self.items ≡ map (λ v. v.items) c.loop.words.items ++ c.in_ok-from_slice.field-0.items ∷ [] =
    rw c.in_ok-push.ensures.items (map_push _ c.loop.words.items c.in_ok-from_slice.field-0) in
    rw (e, c.in_ok-from_slice.ensures.items)
    (goes_on (map (λ v. v.items) c.loop.words.items) c.args.count c.loop.counter c.loop.rest.now c.in_ok-word.word.now c.in_ok-word.after.now
    (words_at c.args.count c.args.bytes.now) c.loop-test.true c.in_ok-word.ensures c.loop.invariant)

pub returns : goal.returns
returns c =
    is_done (map (λ v. v.items) c.loop.words.items) c.args.count c.loop.counter c.loop.rest.now
    (words_at c.args.count c.args.bytes.now) c.loop-test.false c.loop.invariant

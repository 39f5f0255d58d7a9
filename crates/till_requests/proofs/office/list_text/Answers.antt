use Rattle.shop_types.proofs.Common.{◌≡◌, ◌≤◌, ◌∙◌, map, take, string_bytes, ap, subst, IsUtf8, take_all}
use Rattle.std.specs.Prelude.{Some}
use Rattle.serde_json.specs.Data.{Data, string, depth}
use Rattle.serde_json.specs.Read.{read, max_depth}
use Rattle.serde_json.specs.View.{view}
use Rattle.serde_json.specs.declared.value.Value.{Array}
use Rattle.serde_json.proofs.Views.{view-Array}
use Rattle.counter_routes.specs.Words.{texts_of}
use Rattle.till_requests.proofs.WordLemmas.{texts_told, both_ok}
use Rattle.till_requests.proofs.office.list_text.Goals as goal

pub returns : goal.returns
returns c =
    let words = c.args.words.now in
    let all : take c.loop-word.word-index words ≡ words = take_all c.loop-word.word-index words c.loop-word-test.false in
    let vs = map view c.loop-word.list.items in
    let listed : vs ≡ map string (map string_bytes words) = c.loop-word.invariant.listed ∙ ap (λ l. map string (map string_bytes l)) all in
    let whole = view (Array c.loop-word.list) in
    both_ok c.to_vec.result (λ b. IsUtf8 b.items) (λ b. depth whole ≤ max_depth → read b.items ≡ Some whole)
    (λ b. texts_of b.items ≡ Some (map string_bytes words))
    (λ b utf8 back.
    texts_told b.items vs (map string_bytes words) listed utf8
    (subst (λ (d : Data). depth d ≤ max_depth → read b.items ≡ Some d) (view-Array c.loop-word.list) back))
    c.to_vec.ensures.utf8 c.to_vec.ensures.reads_back

use Rattle.shop_schema.proofs.Common.{rules, IsUtf8, token_is_utf8}
use Rattle.shop_store.proofs.columns.token_text.Goals as goal

pub unwrap-requires : goal.unwrap-requires
unwrap-requires c =
    let utf8 : IsUtf8 c.as_slice.result.now = rw (c.as_slice.ensures, c.as_bytes.ensures.value) (token_is_utf8 c.args.token.now c.as_bytes.ensures.kind) in
    search rules

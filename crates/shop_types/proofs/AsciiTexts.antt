-- Keys and tokens are ASCII, and so UTF-8.
use Rattle.std.proofs.Common.{IsUtf8}
use Rattle.shop_model.proofs.Common.{◌≡◌, ◌<◌, ℕ, List, [], ◌∷◌, Bool, true, arith, list_all, IsAscii, and_parts, IsUtf8-from_ascii, IsAscii-cons, IsAscii-nil}
use Rattle.shop_types.specs.Texts.{is_key, is_key_byte, is_token, is_hex_byte}

all_ascii : (is : ℕ → Bool) → ((b : ℕ) → is b ≡ true → b < 128) → (bytes : List ℕ) → list_all is bytes ≡ true → IsAscii bytes
all_ascii is low [] e = IsAscii-nil
all_ascii is low (b ∷ bytes) e =
    let both = and_parts (is b) (list_all is bytes) e in
    IsAscii-cons b bytes (low b both.0) (all_ascii is low bytes both.1)

key_byte_is_ascii : (b : ℕ) → is_key_byte b ≡ true → b < 128
key_byte_is_ascii b e = grind (arith, e)

hex_is_ascii : (b : ℕ) → is_hex_byte b ≡ true → b < 128
hex_is_ascii b e = grind (arith, e)

pub key_is_utf8 : (bytes : List ℕ) → is_key bytes ≡ true → IsUtf8 bytes
key_is_utf8 bytes e = IsUtf8-from_ascii bytes (all_ascii is_key_byte key_byte_is_ascii bytes (and_parts _ _ e).1)

pub token_is_utf8 : (bytes : List ℕ) → is_token bytes ≡ true → IsUtf8 bytes
token_is_utf8 bytes e = IsUtf8-from_ascii bytes (all_ascii is_hex_byte hex_is_ascii bytes (and_parts _ _ e).1)

use Rattle.http_messages.proofs.StreamLemmas.{HasMessage-unique, HasMessage-not-bad, HasMessage-not-long, HasMessage-not-cut, HasMessages-prefix}
use Rattle.http_messages.proofs.StreamLemmas.{HasMessages-append, IsBadHead-append, IsTooLong-append}
use Rattle.http_messages.proofs.messages.one_reading.Goals as goal

pub returns : goal.returns
returns c = record {
  message = λ input rest others m n x y. HasMessage-unique input m n rest others x y;
  bad = λ input rest m x. HasMessage-not-bad input m rest x;
  long = λ input rest m x. HasMessage-not-long input m rest x;
  cut = λ input rest m x. HasMessage-not-cut input m rest x;
  split = λ input rest more ms ns x y le. HasMessages-prefix input ms ns rest more x y le;
  more_bad = λ input more x. IsBadHead-append input more x;
  more_long = λ input more x. IsTooLong-append input more x;
  more_split = λ input more rest ms x. HasMessages-append input more ms rest x;
}

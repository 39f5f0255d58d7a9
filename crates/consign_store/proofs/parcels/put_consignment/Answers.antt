use Rattle.shop_schema.proofs.Common.{map, clean_within, inside_then, on_ok_then}
use Rattle.consign_store.specs.Parcels.{sent_line}
use Rattle.consign_store.proofs.ParcelSteps.{whole}
use Rattle.consign_store.proofs.parcels.put_consignment.Goals as goal

pub returns : goal.returns
returns g c = record {
  inside = inside_then c.in_ok-put_header.ensures.inside c.put_lines.ensures.inside;
  says = λ clean. on_ok_then c.put_lines.result (λ lines.
      let key = c.args.key.now in
      let header = c.in_ok-put_header.ensures.says (clean_within c.put_lines.ensures.inside clean) in
      whole key.source key.addressee key.number _ _ _ c.args.place (map sent_line c.args.lines.now) header (rw c.as_slice.ensures.value at lines))
      (c.put_lines.ensures.says clean);
}

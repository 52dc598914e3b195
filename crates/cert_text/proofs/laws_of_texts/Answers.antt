use Rattle.cert_text.proofs.Certs.{one_text, begins_no_other, stops_where_none_goes_on}
use Rattle.cert_text.proofs.laws_of_texts.Goals as goal

pub returns : goal.returns
returns c = record { one = one_text; no_front = begins_no_other; stops = stops_where_none_goes_on }

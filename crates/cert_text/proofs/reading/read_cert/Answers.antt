use Rattle.cert_text.proofs.Certs.{whole_found, refuses}
use Rattle.cert_text.proofs.reading.read_cert.Goals as goal

pub returns-in-Ok-clause-found : goal.returns-in-Ok-clause-found
returns-in-Ok-clause-found c = whole_found c.args.bytes.now c.in-Ok.cert c.in-Ok.ensures

pub returns-in-Err-clause-refused : goal.returns-in-Err-clause-refused
returns-in-Err-clause-refused c = refuses c.args.bytes.now c.in-Err.fail c.placed.result c.in-Err.ensures c.placed.ensures

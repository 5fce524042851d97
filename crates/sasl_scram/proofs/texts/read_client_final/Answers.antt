use Rattle.sasl_scram.proofs.Readers.{no_client_final, no_client_final_proof, client_final_read, header_value}
use Rattle.sasl_scram.proofs.texts.read_client_final.Goals as goal

pub returns-in_default-read_attribute-clause-missing : goal.returns-in_default-read_attribute-clause-missing
returns-in_default-read_attribute-clause-missing c =
    no_client_final_proof c.args.header.now c.args.text.now _ _ c.in-Some.ensures.found c.in_default-read_attribute.ensures.missing

pub returns-in-Some-read_client_final_bare-clause-found : goal.returns-in-Some-read_client_final_bare-clause-found
returns-in-Some-read_client_final_bare-clause-found c =
    client_final_read c.args.header.now c.args.text.now _ _ _ _ _ c.in-Some.ensures.found c.in-Some-read_attribute.ensures.found c.in-Some-read_client_final_bare.ensures.found

pub returns-in-None-clause-missing : goal.returns-in-None-clause-missing
returns-in-None-clause-missing c =
    no_client_final c.args.header.now c.args.text.now _ _ c.in-Some.ensures.found.0 c.in-Some.ensures.found.1
    (header_value c.args.header.now c.requires) c.in-None.ensures.missing

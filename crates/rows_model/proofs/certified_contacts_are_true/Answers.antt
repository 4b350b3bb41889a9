use Rattle.rows_model.proofs.ContactCases.{certified_contacts_are_true}
use Rattle.rows_model.proofs.certified_contacts_are_true.Goals as goal

pub returns : goal.returns
returns c = certified_contacts_are_true

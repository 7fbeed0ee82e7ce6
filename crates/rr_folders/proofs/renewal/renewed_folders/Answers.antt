use Rattle.rr_folders.proofs.RenewedFolders.{renewed_by_folders}
use Rattle.rr_folders.proofs.renewal.renewed_folders.Goals as goal

pub returns : goal.returns
returns c = record { may_be_made_anew = renewed_by_folders }

use Rattle.rr_folders.proofs.CrashedFolders.{left_agree, longest_begins, longest_knows}
use Rattle.rr_folders.proofs.verdict.crashed_folders_agree.Goals as goal

pub returns-clause-agree : goal.returns-clause-agree
returns-clause-agree c = λ run readings is left. left_agree run readings is left

pub returns-clause-begins : goal.returns-clause-begins
returns-clause-begins c = λ run readings list is left d. longest_begins run readings is left list d

pub returns-clause-knows : goal.returns-clause-knows
returns-clause-knows c = λ run readings p q reply is left l told. longest_knows run readings is left p q reply l told

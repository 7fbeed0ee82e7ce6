use Rattle.rr_cli.proofs.exporting.text_of.Goals as goal

pub returns-in-Claims : goal.returns-in-Claims
returns-in-Claims c = record { text = rw c.in-Claims.is c.script_of.ensures.text }

pub returns-in-List : goal.returns-in-List
returns-in-List c = record { text = rw c.in-List.is c.decided_text.ensures.ok }

pub returns-in-Names : goal.returns-in-Names
returns-in-Names c = record { text = rw c.in-Names.is c.names_of.ensures.text }

pub returns-in-Commands : goal.returns-in-Commands
returns-in-Commands c = record { text = rw c.in-Commands.is c.commands_of.ensures.text }

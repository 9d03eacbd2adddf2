use Rattle.connector.proofs.connector.Connector.perform.Given as goal

abbrev pub ghosts-perform_counted : goal.ghosts-perform_counted
ghosts-perform_counted g a = record { name = a.blank.name; parts = a.blank.parts }

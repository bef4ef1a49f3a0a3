use Rattle.file_rows.proofs.grouped_rows.GroupedRows.into_parts.Goals as goal

pub returns-clause-topics : goal.returns-clause-topics
returns-clause-topics g c = c.self.view_is

pub returns-clause-each : goal.returns-clause-each
returns-clause-each g c = c.self.invariant.matched

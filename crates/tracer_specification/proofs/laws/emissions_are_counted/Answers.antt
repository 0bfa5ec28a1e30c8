use Rattle.tracer_specification.proofs.CountedRows.{counted_rows_are_of_emissions, emissions_are_counted_once, emissions_are_counted, unmet_emissions_are_not_counted}
use Rattle.tracer_specification.proofs.TableUnions.{named_tables_are_unions}
use Rattle.tracer_specification.proofs.laws.emissions_are_counted.Goals as goal

pub returns-clause-rows : goal.returns-clause-rows
returns-clause-rows c = counted_rows_are_of_emissions

pub returns-clause-once : goal.returns-clause-once
returns-clause-once c = emissions_are_counted_once

pub returns-clause-counted : goal.returns-clause-counted
returns-clause-counted c = emissions_are_counted

pub returns-clause-unmet : goal.returns-clause-unmet
returns-clause-unmet c = unmet_emissions_are_not_counted

pub returns-clause-unions : goal.returns-clause-unions
returns-clause-unions c = named_tables_are_unions

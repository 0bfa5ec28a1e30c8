use Rattle.tracer_specification.proofs.KeptEmissions.{kept_records_show_emissions, kept_spare_records_show_emissions}
use Rattle.tracer_specification.proofs.laws.kept_records_show_emissions.Goals as goal

pub returns-clause-live : goal.returns-clause-live
returns-clause-live c = kept_records_show_emissions c.kept_were_put.ensures

pub returns-clause-spare : goal.returns-clause-spare
returns-clause-spare c = kept_spare_records_show_emissions c.kept_were_put.ensures

use Rattle.hist_entries.proofs.BucketLaws as lemmas
use Rattle.hist_entries.proofs.laws.each_value_is_in_one_bucket.Goals as goal

pub returns-clause-lies : goal.returns-clause-lies
returns-clause-lies c = lemmas.lies

pub returns-clause-only : goal.returns-clause-only
returns-clause-only c = lemmas.only

pub returns-clause-greatest : goal.returns-clause-greatest
returns-clause-greatest c = lemmas.greatest

pub returns-clause-pattern : goal.returns-clause-pattern
returns-clause-pattern c = lemmas.pattern_is

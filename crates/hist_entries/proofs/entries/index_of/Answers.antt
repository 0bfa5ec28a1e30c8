use Rattle.std.proofs.Common.{◌≡◌, false, slice_get, Some, IfSome, IfNone, subst}
use Rattle.hist_entries.specs.HistEntries.{is_among}
use Rattle.hist_entries.specs.RowPlaces.{entry_keys}
use Rattle.hist_entries.specs.KeptEntries.{entries_in, key_of}
use Rattle.hist_entries.proofs.TableLemmas.{one_of, two_of, three_of}
use Rattle.hist_entries.proofs.entries.index_of.Goals as goal

pub returns-in-len1-clause-known : goal.returns-in-len1-clause-known
returns-in-len1-clause-known c =
    subst (λ keys. IfSome c.index_of_one.result (λ index. slice_get (entry_keys (entries_in c.args.entries.now.entries)) index ≡ Some (key_of keys c.args.emission.now)))
    (one_of c.args.keys.now c.key-item.result c.in-len1.len_at_least c.in-len1.len_below c.key-item.is) c.index_of_one.ensures.known

pub returns-in-len1-clause-new : goal.returns-in-len1-clause-new
returns-in-len1-clause-new c =
    subst (λ keys. IfNone c.index_of_one.result (is_among (entry_keys (entries_in c.args.entries.now.entries)) (key_of keys c.args.emission.now) ≡ false))
    (one_of c.args.keys.now c.key-item.result c.in-len1.len_at_least c.in-len1.len_below c.key-item.is) c.index_of_one.ensures.new

pub returns-in-len2-clause-known : goal.returns-in-len2-clause-known
returns-in-len2-clause-known c =
    subst (λ keys. IfSome c.index_of_two.result (λ index. slice_get (entry_keys (entries_in c.args.entries.now.entries)) index ≡ Some (key_of keys c.args.emission.now)))
    (two_of c.args.keys.now c.first-item.result c.second-item.result c.in-len2.len_at_least c.in-len2.len_below c.first-item.is c.second-item.is) c.index_of_two.ensures.known

pub returns-in-len2-clause-new : goal.returns-in-len2-clause-new
returns-in-len2-clause-new c =
    subst (λ keys. IfNone c.index_of_two.result (is_among (entry_keys (entries_in c.args.entries.now.entries)) (key_of keys c.args.emission.now) ≡ false))
    (two_of c.args.keys.now c.first-item.result c.second-item.result c.in-len2.len_at_least c.in-len2.len_below c.first-item.is c.second-item.is) c.index_of_two.ensures.new

pub returns-in-len3-up-clause-known : goal.returns-in-len3-up-clause-known
returns-in-len3-up-clause-known c =
    subst (λ keys. IfSome c.index_of_three.result (λ index. slice_get (entry_keys (entries_in c.args.entries.now.entries)) index ≡ Some (key_of keys c.args.emission.now)))
    (three_of c.args.keys.now c.first-item-2.result c.second-item-2.result c.third-item.result c.in-len3-up.len_at_least c.requires c.first-item-2.is c.second-item-2.is c.third-item.is) c.index_of_three.ensures.known

pub returns-in-len3-up-clause-new : goal.returns-in-len3-up-clause-new
returns-in-len3-up-clause-new c =
    subst (λ keys. IfNone c.index_of_three.result (is_among (entry_keys (entries_in c.args.entries.now.entries)) (key_of keys c.args.emission.now) ≡ false))
    (three_of c.args.keys.now c.first-item-2.result c.second-item-2.result c.third-item.result c.in-len3-up.len_at_least c.requires c.first-item-2.is c.second-item-2.is c.third-item.is) c.index_of_three.ensures.new

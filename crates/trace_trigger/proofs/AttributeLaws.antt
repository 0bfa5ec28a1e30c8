-- What an attribute is read as is what it is written as.
use Rattle.std.proofs.Common.{◌≡◌, ◌≢◌, refl, ℕ, ◌+◌, IsTrue, List, take, Some, ap, sym, ◌∙◌, subst}
use Rattle.std.specs.List.{All, AllPairs, AllZip}
use Rattle.trace_lex.specs.Decimals.{decimal_number}
use Rattle.trace_lex.specs.Names.{is_name}
use Rattle.trace_trigger.specs.declared.spec.SortKey.{SortKey}
use Rattle.trace_trigger.specs.declared.attribute.Topic.{Topic}
use Rattle.trace_trigger.specs.declared.attribute.Topic.TheVariants as topic
use Rattle.trace_trigger.specs.declared.attribute.Attribute.{Attribute}
use Rattle.trace_trigger.specs.HistAttributes.{head_len, attribute_of}
use Rattle.trace_trigger.specs.HistPieces.{pieces_of}
use Rattle.trace_trigger.specs.HistLists.{names_of, items_of}
use Rattle.trace_trigger.specs.HistGrammar.{IsCut, Setting, Keys, Values, Sort, Size, Name, Asks, OfKeys, OfValues, OfSort, OfSize, OfName, HasValue, IsKey, IsSortItem, AreNamedApart, WritesKeys, WritesValues, WritesSort, Writes}
use Rattle.trace_trigger.proofs.CutLemmas.{found_is_cut, cut_names}
use Rattle.trace_trigger.proofs.HeadLemmas.{value_in, value_read, action_read, read_value, read_action, HasTopic}

-- ---- what attributes are read as

pub record AreNames (attribute : Attribute) (names : List (List ℕ)) : Type 0 where
  pub items : names_of (items_of attribute) ≡ names
  pub named : All (λ name. IsTrue (is_name name)) names
  pub apart : AllPairs (λ one other. one ≢ other) names

pub record AreKeys (attribute : Attribute) (keys : List (List ℕ)) : Type 0 where
  pub items : names_of (items_of attribute) ≡ keys
  pub each : All IsKey keys
  pub apart : AllPairs AreNamedApart keys

pub record AreSortKeys (attribute : Attribute) (keys : List SortKey) : Type 0 where
  pub each : AllZip IsSortItem (names_of (items_of attribute)) keys
  pub apart : AllPairs (λ (one other : SortKey). one.name ≢ other.name) keys

pub record IsNameIn (attribute : Attribute) (name : List ℕ) : Type 0 where
  pub value : attribute.value ≡ name
  pub named : IsTrue (is_name name)

-- the topic of a setting's attribute
abbrev pub topic_of_setting : Setting → Topic
topic_of_setting (Keys names) = topic.Keys
topic_of_setting (Values names) = topic.Values
topic_of_setting (Sort keys) = topic.Sort
topic_of_setting (Size entries) = topic.Size
topic_of_setting (Name name) = topic.Name
topic_of_setting (Asks action) = topic.Asked action

abbrev pub Holds : Attribute → Setting → Type 0
Holds attribute (Keys keys) = AreKeys attribute keys
Holds attribute (Values names) = AreNames attribute names
Holds attribute (Sort keys) = AreSortKeys attribute keys
Holds attribute (Size entries) = decimal_number attribute.value ≡ Some entries
Holds attribute (Name name) = IsNameIn attribute name
Holds attribute (Asks action) = Unit {0}

pub record IsRead (attribute : Attribute) (setting : Setting) : Type 0 where
  pub topic : attribute.topic ≡ topic_of_setting setting
  pub holds : Holds attribute setting

-- ---- what is written is read

module _ (at : ℕ) (written : List ℕ) where
  abbrev it : Attribute
  it = attribute_of (record { at = at; bytes = written })

  items_are : (value : List ℕ) (items : List (List ℕ)) → value_in written ≡ value → IsCut 44 value items → names_of (items_of it) ≡ items
  items_are value items e cut = ap (λ (v : List ℕ). names_of (pieces_of 44 (at + head_len written) v)) e ∙ cut_names 44 (at + head_len written) value items cut

  keys_read : (keys : List (List ℕ)) → WritesKeys written keys → AreKeys it keys
  keys_read keys is =
      let read = value_read OfKeys written is.head is.value is.has in
      record { items = items_are is.value keys read.found is.cut; each = is.each; apart = is.apart }

  names_read : (names : List (List ℕ)) → WritesValues written names → AreNames it names
  names_read names is =
      let read = value_read OfValues written is.head is.value is.has in
      record { items = items_are is.value names read.found is.cut; named = is.named; apart = is.apart }

  sort_keys_read : (keys : List SortKey) → WritesSort written keys → AreSortKeys it keys
  sort_keys_read keys is =
      let read = value_read OfSort written is.head is.value is.has in
      let items : names_of (items_of it) ≡ is.items = items_are is.value is.items read.found is.cut in
      record { each = subst (λ (parts : List (List ℕ)). AllZip IsSortItem parts keys) (sym items) is.each; apart = is.apart }

  pub written_is_read : (setting : Setting) → Writes written setting → IsRead it setting
  written_is_read (Keys keys) is = record { topic = (value_read OfKeys written is.head is.value is.has).topic; holds = keys_read keys is }
  written_is_read (Values names) is = record { topic = (value_read OfValues written is.head is.value is.has).topic; holds = names_read names is }
  written_is_read (Sort keys) is = record { topic = (value_read OfSort written is.head is.value is.has).topic; holds = sort_keys_read keys is }
  written_is_read (Size entries) is =
      let read = value_read OfSize written is.head is.digits is.has in
      record { topic = read.topic; holds = ap decimal_number read.found ∙ is.number }
  written_is_read (Name name) is =
      let read = value_read OfName written is.head name is.has in
      record { topic = read.topic; holds = record { value = read.found; named = is.named } }
  written_is_read (Asks action) is = record { topic = action_read action written is; holds = tt }

  -- ---- and what is read is written

  items_cut : (names : List (List ℕ)) → names_of (items_of it) ≡ names → IsCut 44 (value_in written) names
  items_cut names e = subst (IsCut 44 (value_in written)) e (found_is_cut 44 (at + head_len written) (value_in written))

  keys_written : (keys : List (List ℕ)) → HasTopic OfKeys written → AreKeys it keys → WritesKeys written keys
  keys_written keys e is =
      record { head = take (head_len written) written; value = value_in written; has = read_value OfKeys written e; cut = items_cut keys is.items; each = is.each; apart = is.apart }

  names_written : (names : List (List ℕ)) → HasTopic OfValues written → AreNames it names → WritesValues written names
  names_written names e is =
      record { head = take (head_len written) written; value = value_in written; has = read_value OfValues written e; cut = items_cut names is.items; named = is.named; apart = is.apart }

  pub read_is_written : (setting : Setting) → IsRead it setting → Writes written setting
  read_is_written (Keys keys) is = keys_written keys is.topic is.holds
  read_is_written (Values names) is = names_written names is.topic is.holds
  read_is_written (Sort keys) is =
      record {
        head = take (head_len written) written;
        value = value_in written;
        items = names_of (items_of it);
        has = read_value OfSort written is.topic;
        cut = items_cut (names_of (items_of it)) refl;
        each = is.holds.each;
        apart = is.holds.apart;
      }
  read_is_written (Size entries) is =
      record { head = take (head_len written) written; digits = value_in written; has = read_value OfSize written is.topic; number = is.holds }
  read_is_written (Name name) is =
      record {
        head = take (head_len written) written;
        has = subst (HasValue OfName written (take (head_len written) written)) is.holds.value (read_value OfName written is.topic);
        named = is.holds.named;
      }
  read_is_written (Asks action) is = read_action action written is.topic

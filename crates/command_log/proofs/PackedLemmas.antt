-- Entries that lie one after the other: what more bytes at the end leave of them, and what a whole entry is.
use Rattle.std.proofs.Common.{◌≡◌, ℕ, zero, suc, ◌+◌, ◌<◌, ◌^◌, List, [], ◌++◌, length, refl, sym, ap, ◌∙◌, arith, append_assoc, zero-add}
use Rattle.std.proofs.lemmas.List.{append-nil}
use Rattle.trace_command.specs.declared.command.Entry.{Entry}
use Rattle.command_log.specs.EntryEncoding.{entry_bytes, IsWritable}
use Rattle.command_log.specs.EntryDecoding.{entry_in, after_entry}
use Rattle.command_log.specs.PackedEntries.{entries_in, ArePacked, BeginsWithEntry, IsOneEntry}
use Rattle.command_log.proofs.ReadBack.{entry_read}

pub length-entries_in : (count : ℕ) (bytes : List ℕ) → length (entries_in count bytes) ≡ count
length-entries_in zero bytes = refl
length-entries_in (suc count) bytes = ap suc (length-entries_in count (after_entry bytes))

begins_still : (bytes more : List ℕ) → BeginsWithEntry bytes → BeginsWithEntry (bytes ++ more)
begins_still bytes more begins = record {
  entry = λ most. rw append_assoc (begins.entry (more ++ most) ∙ sym (begins.entry more));
  after = λ most. rw append_assoc (begins.after (more ++ most) ∙ rw (begins.after more) (sym (append_assoc (after_entry bytes) more most)));
}

-- packed entries after others
pub packed_join : (a b : ℕ) (xs ys : List ℕ) → ArePacked a xs → ArePacked b ys → ArePacked (a + b) (xs ++ ys)
packed_join zero b xs ys p q = rw (zero-add, p) q
packed_join (suc a) b xs ys p q =
    let more : suc a + b ≡ suc (a + b) = omega arith in
    rw more (begins_still xs ys p.0, rw (p.0.after ys) (packed_join a b (after_entry xs) ys p.1 q))

pub entries_join : (a b : ℕ) (xs ys : List ℕ) → ArePacked a xs → entries_in (a + b) (xs ++ ys) ≡ entries_in a xs ++ entries_in b ys
entries_join zero b xs ys p = rw (zero-add, p) refl
entries_join (suc a) b xs ys p =
    let more : suc a + b ≡ suc (a + b) = omega arith in
    rw more (rw (p.0.entry ys, p.0.after ys, entries_join a b (after_entry xs) ys p.1) refl)

-- the bytes of an entry are one entry
pub one_entry : (entry : Entry) → entry.ticket < 2 ^ 64 → entry.by < 2 ^ 32 → IsWritable entry.command → IsOneEntry (entry_bytes entry) entry
one_entry entry t b w =
    let bytes = entry_bytes entry in
    let alone : bytes ++ [] ≡ bytes = append-nil bytes in
    let same : entry_in bytes ≡ entry = rw alone at (entry_read entry [] t b w).same in
    let after : after_entry bytes ≡ [] = rw alone at (entry_read entry [] t b w).after in
    record {
      packed = (
        record {
          entry = λ more. (entry_read entry more t b w).same ∙ sym same;
          after = λ more. (entry_read entry more t b w).after ∙ rw after refl;
        },
        after,
      );
      same = rw same refl;
    }

-- Entries of a folder, one after another.
use Rattle.std.proofs.Common.{◌≡◌, ◌↔◌, ℕ, ◌<◌, ◌≤◌, ◌+◌, ◌-◌, zero, suc, Bool, true, false, nat_le, if◌then◌else◌, IsTrue, IfOk, Result, Ok, Err, append-nil, List, [], ◌∷◌, ◌++◌, length, drop, Some, None, refl, sym, ap, ◌∙◌, arith, length-append}
use Rattle.std.proofs.lemmas.Bool.Decides.{nat_tests}
use Rattle.std.specs.List.{slice_get}
use Rattle.std.specs.declared.alloc.AllocError.{AllocError}
use Rattle.fuse_wire.specs.Directories.{entry_bytes}
use Rattle.fuse_wire.specs.Parts.{number_bytes}
use Rattle.fuse_wire.specs.declared.directory.DirectoryEntry.{DirectoryEntry}
use Rattle.mount_tree.specs.Children.{Child}
use Rattle.mount_replies.specs.Told.{dirent_of, listed_from}
use Rattle.mount_replies.specs.private.Pushed.{HasPushed}

drop_next : (xs : List Child) (i : ℕ) (x : Child) → slice_get xs i ≡ Some x → drop i xs ≡ x ∷ drop (i + 1) xs
drop_next [] zero x e = absurd (cc)
drop_next [] (suc i) x e = absurd (cc)
drop_next (y ∷ ys) zero x e = ap (λ z. z ∷ ys) (let same : y ≡ x = cc in same)
drop_next (y ∷ ys) (suc i) x e = let more : suc i + 1 ≡ suc (i + 1) = omega arith in rw more (drop_next ys i x e)

past_end : (xs : List Child) (i : ℕ) → slice_get xs i ≡ None → drop i xs ≡ []
past_end [] zero e = refl
past_end [] (suc i) e = refl
past_end (y ∷ ys) zero e = absurd (cc)
past_end (y ∷ ys) (suc i) e = past_end ys i e

-- an entry has bytes
some-bytes : (entry : DirectoryEntry) → 0 < length (entry_bytes entry)
unfolding number_bytes
some-bytes entry = omega arith

-- there is no entry
pub none-listed : (room index : ℕ) (entries : List Child) → slice_get entries index ≡ None → listed_from room index entries ≡ []
none-listed room index entries none = rw (past_end entries index none) refl

-- there is no room for it
pub full-listed : (room index : ℕ) (entries : List Child) (child : Child) → slice_get entries index ≡ Some child
    → room < length (entry_bytes (dirent_of child (index + 1))) → listed_from room index entries ≡ []
full-listed room index entries child is full =
    let no : nat_le (length (entry_bytes (dirent_of child (index + 1)))) room ≡ false = grind (arith, nat_tests) in
    rw (drop_next entries index child is, no) refl

-- there is
pub pushed : (old now : List ℕ) (size index : ℕ) (entries : List Child) (child : Child) → slice_get entries index ≡ Some child
    → length old + length (entry_bytes (dirent_of child (index + 1))) ≤ size → now ≡ old ++ entry_bytes (dirent_of child (index + 1))
    → HasPushed old now size index entries
pushed old now size index entries child is fits appended =
    let bytes = entry_bytes (dirent_of child (index + 1)) in
    record {
      bytes = bytes;
      some = some-bytes (dirent_of child (index + 1));
      appended = appended;
      fits = rw appended (omega (arith, fits, length-append old bytes));
      rest = λ room left.
          let yes : nat_le (length bytes) (length bytes + room) ≡ true = grind (arith, nat_tests) in
          let same : length bytes + room - length bytes ≡ room = omega arith in
          rw (drop_next entries index child is, yes, same) refl;
    }

-- an entry was appended, or not
pub ended-if : (r : Result Bool AllocError) (old now : List ℕ) (size index : ℕ) (entries : List Child) (child : Child) → slice_get entries index ≡ Some child
    → IfOk r (λ pushed. IsTrue pushed ↔ (length old + length (entry_bytes (dirent_of child (index + 1))) ≤ size))
    → IfOk r (λ pushed. now ≡ (if pushed then old ++ entry_bytes (dirent_of child (index + 1)) else old))
    → IfOk r (λ pushed. pushed ≡ false → (now ≡ old) × ((room : ℕ) → length old + room ≡ size → listed_from room index entries ≡ []))
ended-if (Err e) old now size index entries child is fits ok = tt
ended-if (Ok true) old now size index entries child is fits ok = λ e. absurd (cc)
ended-if (Ok false) old now size index entries child is fits ok = λ e. (
  ok,
  λ room left.
      let full : room < length (entry_bytes (dirent_of child (index + 1))) = nat-cases room left in full-listed room index entries child is full,
)
  where
    nat-cases : (room : ℕ) → length old + room ≡ size → room < length (entry_bytes (dirent_of child (index + 1)))
    nat-cases room left = by_test (nat_le (length (entry_bytes (dirent_of child (index + 1)))) room) refl
      where
        by_test : (t : Bool) → nat_le (length (entry_bytes (dirent_of child (index + 1)))) room ≡ t
            → room < length (entry_bytes (dirent_of child (index + 1)))
        by_test false test = grind (arith, nat_tests)
        by_test true test =
            let le : length (entry_bytes (dirent_of child (index + 1))) ≤ room = grind (arith, nat_tests) in
            absurd (let no : false ≡ true = fits.1 (omega (arith, le, left)) in cc)

pub more-if : (r : Result Bool AllocError) (old now : List ℕ) (size index : ℕ) (entries : List Child) (child : Child) → slice_get entries index ≡ Some child
    → IfOk r (λ pushed. IsTrue pushed ↔ (length old + length (entry_bytes (dirent_of child (index + 1))) ≤ size))
    → IfOk r (λ pushed. now ≡ (if pushed then old ++ entry_bytes (dirent_of child (index + 1)) else old))
    → IfOk r (λ pushed. pushed ≡ true → HasPushed old now size index entries)
more-if (Err e) old now size index entries child is fits ok = tt
more-if (Ok true) old now size index entries child is fits ok = λ e. pushed old now size index entries child is (fits.0 refl) ok
more-if (Ok false) old now size index entries child is fits ok = λ e. absurd (cc)

-- all are listed
pub all-listed : (old now : List ℕ) (size first index : ℕ) (entries : List Child) → now ≡ old → length old ≤ size
    → ((room : ℕ) → length old + room ≡ size → listed_from room index entries ≡ [])
    → ((room : ℕ) → length old + room ≡ size → old ++ listed_from room index entries ≡ listed_from size first entries)
    → now ≡ listed_from size first entries
all-listed old now size first index entries same fits ended so_far =
    let left : length old + (size - length old) ≡ size = omega (arith, fits) in
    same ∙ sym (append-nil old) ∙ ap (λ (l : List ℕ). old ++ l) (sym (ended (size - length old) left)) ∙ so_far (size - length old) left

pub longer : (old now : List ℕ) (size index count : ℕ) (entries : List Child) → HasPushed old now size index entries → count ≤ length old
    → count + 1 ≤ length now
longer old now size index count entries has long =
    omega (arith, long, has.some, ap length has.appended, length-append old has.bytes)

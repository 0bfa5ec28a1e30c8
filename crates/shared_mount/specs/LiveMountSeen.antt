-- A live mount as what it was mounted with and its history.
use Rattle.std.specs.Prelude.{ℕ, Bool, List, [], ◌∷◌}
use Rattle.mount_replies.specs.Services.{Terms}
use Rattle.shared_mount.specs.MountEntries.{EntrySeen}

-- what a mounted tracer that is shared was made with: what it was mounted with, and how many commands are done after which calls do nothing more
pub record SharedTerms : Type 0 where
  pub mount : Terms
  pub limit : ℕ

-- `owes`: something has to be told before the next request is answered
pub record LiveMountSeen : Type 0 where
  pub terms : SharedTerms
  pub entries : List EntrySeen
  pub owes : Bool

-- what a lock sees of what it was made with: the numbers, which determine it
abbrev pub numbers_of : SharedTerms → List ℕ
numbers_of g =
    g.mount.config.cpus ∷ g.mount.config.pages ∷ g.mount.config.page_bytes ∷ g.mount.config.history_limit
    ∷ g.mount.uid ∷ g.mount.gid ∷ g.mount.mode ∷ g.limit ∷ []

-- The numbers of a configuration determine it.
use Rattle.std.proofs.Common.{◌≡◌, ℕ, ap, ◌∙◌}
use Rattle.shared_book.specs.Bases.{numbers_of}
use Rattle.trace_command.specs.declared.command.Config.{Config}

pub numbers_of-determines : (g k : Config) → numbers_of g ≡ numbers_of k → g ≡ k
numbers_of-determines g k same =
    let with : ℕ → ℕ → ℕ → ℕ → Config = λ a b c d. record { cpus = a; pages = b; page_bytes = c; history_limit = d } in
    let cpus : g.cpus ≡ k.cpus = cc in
    let pages : g.pages ≡ k.pages = cc in
    let page_bytes : g.page_bytes ≡ k.page_bytes = cc in
    let history_limit : g.history_limit ≡ k.history_limit = cc in
    ap (λ (n : ℕ). with n g.pages g.page_bytes g.history_limit) cpus
    ∙ ap (λ (n : ℕ). with k.cpus n g.page_bytes g.history_limit) pages
    ∙ ap (λ (n : ℕ). with k.cpus k.pages n g.history_limit) page_bytes
    ∙ ap (λ (n : ℕ). with k.cpus k.pages k.page_bytes n) history_limit

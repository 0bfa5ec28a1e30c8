use Rattle.std.proofs.Common.{◌≡◌, ◌≤◌, ◌++◌, List, ℕ, length, sym, ap, ◌∙◌, subst}
use Rattle.kernel_pages.specs.KernelFormats.{common_data, fields_data, record_data}
use Rattle.kernel_pages.proofs.record.write_data.Goals as goal

pub returns-clause-fits : goal.returns-clause-fits
unfolding record_data
returns-clause-fits c =
    let head = c.head_in-head.result in
    let fields = c.fields_of.result.now in
    let payload = c.payload_in.result.now in
    let bytes : c.push_fields.new.out.items ≡ record_data head fields payload =
    c.in_ok-push_fields.ensures
    ∙ ap (λ front. front ++ fields_data 8 fields payload) (c.in_ok-push_common.ensures ∙ ap (λ front. front ++ common_data head) c.clear.ensures.items) in
    subst (λ (all : List ℕ). length all ≤ 4056) (sym bytes) (c.fields_of.ensures.fit head payload)

-- Reads of binary pages: whole pages for the page cache, and what they have.
use Rattle.std.proofs.Common.{◌≡◌, ◌⊎◌, inl, inr, ℕ, suc, ◌^◌, ◌<◌, ◌≤◌, Bool, true, false, nat_lt, if◌then◌else◌, List, [], ◌∷◌, length, map, min, take, unwrap_or, Option, None, Some, Result, Ok, Err, refl, sym, ap, ◌∙◌, subst, arith}
use Rattle.std.specs.List.{AllByRecursion}
use Rattle.std.specs.Option.{option_map_or}
use Rattle.std.proofs.lemmas.Bool.Decides.{nat_tests}
use Rattle.std.proofs.lemmas.List.{length-map, length-take, take-map, take-take}
use Rattle.fuse_wire.specs.declared.errno.Errno.TheVariants.{EAGAIN, EINVAL, ENOENT}
use Rattle.fuse_wire.specs.declared.reply.Reply.{Reply}
use Rattle.fuse_wire.specs.declared.reply.Reply.TheVariants as replies
use Rattle.fuse_wire.specs.declared.request.Operation.{Operation}
use Rattle.trace_buffer.specs.Families.{CpuReading, cpu_readings, on_cpu}
use Rattle.trace_command.specs.Requests.{Request}
use Rattle.trace_command.specs.declared.command.Reply.{Reply as Answer}
use Rattle.trace_command.specs.declared.refusal.Refusal.{Refusal}
use Rattle.trace_format.specs.Definitions.{Definition}
use Rattle.trace_record.specs.Record.{payload_in}
use Rattle.tracer_specification.specs.Rings.{rings}
use Rattle.tracer_specification.specs.Settings.{declared_events}
use Rattle.kernel_pages.specs.declared.page_row.PageRow.{PageRow}
use Rattle.kernel_pages.specs.Laws.{IsPageRow}
use Rattle.kernel_pages.specs.Pages.{IsOnePage, page_of}
use Rattle.kernel_pages.specs.ReadPages.{read_page}
use Rattle.kernel_pages.specs.Rows.{data_of, fields_of, head_in, row_of, rows_of}
use Rattle.kernel_pages.specs.Taking.{room_after, room_left, taken_after, taken_of}
use Rattle.kernel_pages.proofs.LayoutLemmas.{is_page_row}
use Rattle.kernel_pages.proofs.PageLemmas.{page_has_its_size, page_is_read, row_fits}
use Rattle.kernel_pages.proofs.RowLemmas.{page_has_few_records}
use Rattle.kernel_pages.proofs.TakingLemmas.{page_is_all, taken_are_a_page}
use Rattle.file_list.specs.FileKinds.{kind_of_file}
use Rattle.file_list.specs.FileTable.{file_index}
use Rattle.file_list.specs.declared.file.FileKind.{FileKind}
use Rattle.file_list.specs.declared.file.FileKind.TheVariants as kinds
use Rattle.mount_tree.specs.Children.{is_there}
use Rattle.mount_tree.specs.NodePaths.{owner_name}
use Rattle.mount_tree.specs.declared.node.Owner.{Owner}
use Rattle.mount_replies.specs.Mounted.{Does}
use Rattle.mount_replies.specs.PageLaws.{FitWords, IsPageOrError, PageCacheGetsPages, PageReadsTake, PagesAreReadAsTaken, PagesTakeAllThatFits, PagesTakeSome, taken_rows}
use Rattle.mount_replies.specs.Pipes.{ends, is_dry, is_used_up}
use Rattle.mount_replies.specs.RawPages.{next_count, next_page, next_rows, pipe_node}
use Rattle.mount_replies.specs.Served.{given_records, is_cached, is_nonblocking, part_of, read_dry, read_file, read_kind, read_no_page, read_page as page_step, read_pages, read_raw, read_whole_page, step_of}
use Rattle.mount_replies.specs.Services.{OpenSeen, Service, Terms, file_at, node_of, read_of_pipe, scene_of, with_dry_read}
use Rattle.mount_replies.specs.Steps.{Asks, Parks, Plain, Step, Takes, failed, read_of, taking}
use Rattle.mount_replies.specs.declared.parked.Parked.{Parked}
use Rattle.mount_replies.proofs.KeptTexts.{either}

-- ---- a read of a CPU's pages

-- what holds of each step that it can be
module _ (P : Step → Type 0) (g : Terms) (s : Service) (read : Parked) (offset : ℕ) (cached : Bool) (flags : ℕ) (file : OpenSeen) where
  read-holds : file_at read.handle s.files ≡ Some file → kind_of_file file.file ≡ kinds.RawPipe → P (failed ENOENT s.files)
      → P (read_raw g s read cached flags file) → P (read_file g s read offset cached flags (file_at read.handle s.files))
  read-holds found raw gone given =
      subst (λ (slot : Option OpenSeen). P (read_file g s read offset cached flags slot)) (sym found)
      (either P (is_there (scene_of g s) (node_of file)) _ _
      (subst (λ (kind : FileKind). P (read_kind g s read offset cached flags file kind)) (sym raw) given)
      gone)

-- ---- whole pages

-- a step that tells a page or an error
abbrev TellsPage : Step → Type 0
TellsPage (Plain outcome) = IsPageOrError outcome.reply
TellsPage (Takes outcome) = IsPageOrError outcome.reply
TellsPage (Asks request outcome) = (answer : Result Answer Refusal) → IsPageOrError (outcome answer).reply
TellsPage _ = ⊥

does-page : (g : Terms) (before : Service) (step : Step) (reply : Option Reply) (after : Service) → TellsPage step → Does g before step reply after
    → IsPageOrError reply
does-page g before (Plain outcome) reply after tells does = subst IsPageOrError (sym does.0) tells
does-page g before (Takes outcome) reply after tells (inl does) = subst IsPageOrError (sym does.0) tells
does-page g before (Takes outcome) reply after tells (inr does) = subst IsPageOrError (sym does.0) tt
does-page g before (Asks request outcome) reply after tells (answer, answered, replied, same) = subst IsPageOrError (sym replied) (tells answer)
does-page g before _ reply after tells does = absurd tells

-- a page that there is room for
part-size : (size : ℕ) (page : List ℕ) → 4096 ≤ size → length page ≡ 4096 → length (part_of 0 size page) ≡ 4096
part-size size page room whole = omega (arith, length-take (min size 131072) page)

rows-size : (rows : List PageRow) → length (page_of (take (taken_of rows) rows)) ≡ 4096
rows-size rows = page_has_its_size (take (taken_of rows) rows) (taken_are_a_page rows)

page-tells : (g : Terms) (s : Service) (read : Parked) (file : OpenSeen) → 4096 ≤ read.size → TellsPage (page_step g s read file)
page-tells g s read file room (Ok answer) =
    part-size read.size (next_page g s file.owner (file_index file.file)) room (rows-size (next_rows g s file.owner (file_index file.file)))
page-tells g s read file room (Err refusal) = tt

none-tells : (read : Parked) (file : OpenSeen) (files : List (Option OpenSeen)) → 4096 ≤ read.size → TellsPage (read_no_page read file files)
none-tells read file files room =
    either TellsPage file.polls.told_ready (taking (replies.Data (part_of 0 read.size (page_of []))) (with_dry_read false read.handle files))
    (failed EAGAIN (with_dry_read false read.handle files)) (part-size read.size (page_of []) room (rows-size [])) tt

whole-tells : (g : Terms) (s : Service) (read : Parked) (file : OpenSeen) → TellsPage (read_whole_page g s read file)
whole-tells g s read file = by (nat_lt read.size 4096) (λ few. grind (arith, nat_tests, few))
  where
    by : (few : Bool) → (few ≡ false → 4096 ≤ read.size)
        → TellsPage (if few then failed EINVAL s.files
        else if is_dry g s file.owner file.file then read_no_page read file s.files else page_step g s read file)
    by true room = tt
    by false room =
        either TellsPage (is_dry g s file.owner file.file) (read_no_page read file s.files) (page_step g s read file)
        (none-tells read file s.files (room refl)) (page-tells g s read file (room refl))

pub page_cache_gets_pages : PageCacheGetsPages
page_cache_gets_pages g before after request bytes handle offset size read_flags flags file served operation cached found raw =
    does-page g before (step_of g before request.unique request.pid served.node request.operation) served.reply after
    (subst (λ (o : Operation). TellsPage (step_of g before request.unique request.pid served.node o)) (sym operation)
    (subst (λ (c : Bool). TellsPage (read_file g before (read_of_pipe request.unique handle size) offset c flags (file_at handle before.files))) (sym cached)
    (read-holds TellsPage g before (read_of_pipe request.unique handle size) offset true flags file found raw tt
    (either TellsPage (is_used_up file) (read_whole_page g before (read_of_pipe request.unique handle size) file) (failed EINVAL before.files)
    (whole-tells g before (read_of_pipe request.unique handle size) file) tt))))
    served.does

-- ---- what is taken

-- a step that asks nothing, or this request with this reply where it is done
abbrev TakesBy : Request → Reply → Step → Type 0
TakesBy request told (Plain outcome) = Unit {0}
TakesBy request told (Takes outcome) = Unit {0}
TakesBy request told (Parks read) = Unit {0}
TakesBy request told (Asks asked outcome) = (asked ≡ request) × ((answer : Answer) → (outcome (Ok answer)).reply ≡ Some told)
TakesBy request told _ = ⊥

abbrev IsTakenBy : Request → Reply → Service → Option Reply → Service → Type 0
IsTakenBy request told before reply after = (after.past ≡ before.past) ⊎ ((after.past ≡ request ∷ before.past) × (reply ≡ Some told))

does-take : (g : Terms) (before : Service) (step : Step) (reply : Option Reply) (after : Service) (request : Request) (told : Reply)
    → TakesBy request told step → Does g before step reply after → IsTakenBy request told before reply after
does-take g before (Plain outcome) reply after request told takes does = inl (ap (λ (s : Service). s.past) does.1)
does-take g before (Takes outcome) reply after request told takes (inl does) = inl (ap (λ (s : Service). s.past) does.1)
does-take g before (Takes outcome) reply after request told takes (inr does) = inl (ap (λ (s : Service). s.past) does.1)
does-take g before (Parks read) reply after request told takes (inl does) = inl (ap (λ (s : Service). s.past) does.1)
does-take g before (Parks read) reply after request told takes (inr does) = inl (ap (λ (s : Service). s.past) does.1)
does-take g before (Asks asked outcome) reply after request told takes (Ok answer, answered, replied, same) =
    inr (ap (λ (s : Service). s.past) same ∙ ap (λ (r : Request). r ∷ before.past) takes.0, replied ∙ takes.1 answer)
does-take g before (Asks asked outcome) reply after request told takes (Err refusal, answered, replied, same) = inl (ap (λ (s : Service). s.past) same)
does-take g before _ reply after request told takes does = absurd takes

module _ (g : Terms) (s : Service) (read : Parked) (cached : Bool) (flags : ℕ) (file : OpenSeen) where
  abbrev taken : Step → Type 0
  taken = TakesBy (read_of (scene_of g s) (pipe_node file) (Some (next_count g s file.owner (file_index file.file))))
      (replies.Data (part_of 0 read.size (next_page g s file.owner (file_index file.file))))

  page-takes : taken (page_step g s read file)
  page-takes = (refl, λ answer. refl)

  none-takes : taken (read_no_page read file s.files)
  none-takes =
      either taken file.polls.told_ready (taking (replies.Data (part_of 0 read.size (page_of []))) (with_dry_read false read.handle s.files))
      (failed EAGAIN (with_dry_read false read.handle s.files)) tt tt

  whole-takes : taken (read_whole_page g s read file)
  whole-takes =
      either taken (nat_lt read.size 4096) (failed EINVAL s.files) _ tt
      (either taken (is_dry g s file.owner file.file) (read_no_page read file s.files) (page_step g s read file) none-takes page-takes)

  dry-takes : taken (read_dry read flags (ends g s file) s.files)
  dry-takes =
      either taken (ends g s file) _ _ tt (either taken (is_nonblocking flags) (failed EAGAIN (with_dry_read false read.handle s.files)) (Parks read) tt tt)

  pages-take : taken (read_pages g s read flags file)
  pages-take =
      either taken (is_used_up file) _ (Plain (given_records read.handle read.size (unwrap_or file.text []) s.files))
      (either taken (is_dry g s file.owner file.file) (read_dry read flags (ends g s file) s.files) (page_step g s read file) dry-takes page-takes)
      tt

  raw-takes : taken (read_raw g s read cached flags file)
  raw-takes =
      either taken cached _ (read_pages g s read flags file)
      (either taken (is_used_up file) (read_whole_page g s read file) (failed EINVAL s.files) whole-takes tt) pages-take

pub page_reads_take : PageReadsTake
page_reads_take g before after request bytes handle offset size read_flags flags file served operation found raw =
    let read = read_of_pipe request.unique handle size in
    let asked = read_of (scene_of g before) (pipe_node file) (Some (next_count g before file.owner (file_index file.file))) in
    let told = replies.Data (part_of 0 size (next_page g before file.owner (file_index file.file))) in
    does-take g before (step_of g before request.unique request.pid served.node request.operation) served.reply after asked told
    (subst (λ (o : Operation). TakesBy asked told (step_of g before request.unique request.pid served.node o)) (sym operation)
    (read-holds (TakesBy asked told) g before read offset (is_cached read_flags) flags file found raw tt
    (raw-takes g before read (is_cached read_flags) flags file)))
    served.does

-- ---- how a page is read

after-few : (room time : ℕ) (rows : List PageRow) → taken_after room time rows ≤ length rows
after-few room time [] = omega arith
after-few room time (row ∷ rows) = by (room_after room time row) (λ left. after-few left row.time rows)
  where
    by : (o : Option ℕ) → ((left : ℕ) → taken_after left row.time rows ≤ length rows)
        → option_map_or (λ left. suc (taken_after left row.time rows)) o 0 ≤ suc (length rows)
    by None few = omega arith
    by (Some left) few = let rest = few left in omega arith

-- no more are taken than there are
taken-few : (rows : List PageRow) → taken_of rows ≤ length rows
taken-few [] = omega arith
taken-few (row ∷ rows) = by (room_left _ 0 (length row.bytes)) (λ left. after-few left row.time rows)
  where
    by : (o : Option ℕ) → ((left : ℕ) → taken_after left row.time rows ≤ length rows)
        → option_map_or (λ left. suc (taken_after left row.time rows)) o 0 ≤ suc (length rows)
    by None few = omega arith
    by (Some left) few = let rest = few left in omega arith

-- rows of so many of the first readings are so many of the first rows
first-rows : {A B C : Type 0} (row : B → C) (own : A → B) (count limit : ℕ) (readings : List A)
    → count ≤ length (map row (map own (take (min limit (length readings)) readings)))
    → take count (map row (map own (take (min limit (length readings)) readings))) ≡ map row (map own (take (min count (length readings)) readings))
first-rows row own count limit readings few =
    let kept = take (min limit (length readings)) readings in
    let many = length-map (map own kept) row in
    let also = length-map kept own in
    let size = length-take (min limit (length readings)) readings in
    let within : count ≤ min limit (length readings) = omega arith in
    let same : min count (length readings) ≡ count = omega arith in
    take-map row count (map own kept) ∙ ap (map row) (take-map own count kept)
    ∙ ap (λ xs. map row (map own xs)) (take-take count (min limit (length readings)) readings within)
    ∙ ap (λ n. map row (map own (take n readings))) (sym same)

next-taken : (g : Terms) (s : Service) (owner : Owner) (cpu : ℕ)
    → take (next_count g s owner cpu) (next_rows g s owner cpu) ≡ taken_rows g s owner cpu (next_count g s owner cpu)
next-taken g s owner cpu =
    let events = declared_events s.past in
    first-rows (λ (r : CpuReading). row_of events r.lost r.rec) (on_cpu cpu) (next_count g s owner cpu) 340
    (cpu_readings g.config.pages g.config.page_bytes (rings g.config (owner_name (scene_of g s) owner) s.past) cpu)
    (taken-few (next_rows g s owner cpu))

page-row : (events : List Definition) (reading : CpuReading) → (row_of events reading.lost reading.rec).time < 2 ^ 64 → reading.lost < 2 ^ 64
    → IsPageRow (row_of events reading.lost reading.rec)
unfolding data_of
page-row events reading time lost =
    is_page_row (row_of events reading.lost reading.rec) (head_in reading.rec) (fields_of events (head_in reading.rec).event)
    (payload_in (head_in reading.rec) reading.rec) refl time lost

page-rows : (events : List Definition) (readings : List CpuReading) → FitWords (rows_of events readings)
    → AllByRecursion IsPageRow (rows_of events readings)
page-rows events [] fit = tt
page-rows events (reading ∷ readings) fit = (page-row events reading fit.0.0 fit.0.1, page-rows events readings fit.1)

pub pages_are_read_as_taken : PagesAreReadAsTaken
pages_are_read_as_taken g s owner cpu rows are fit =
    let next = take (next_count g s owner cpu) (next_rows g s owner cpu) in
    let taken : next ≡ rows = next-taken g s owner cpu ∙ sym are in
    let page : IsOnePage rows = subst IsOnePage taken (taken_are_a_page (next_rows g s owner cpu)) in
    let each : AllByRecursion IsPageRow rows =
    subst (AllByRecursion IsPageRow) (sym are) (page-rows (declared_events s.past) _ (subst FitWords are fit)) in
    ap (λ (r : List PageRow). read_page (page_of r)) taken ∙ page_is_read rows page each

-- ---- what a page takes

pub pages_take_all_that_fit : PagesTakeAllThatFits
pages_take_all_that_fit g s owner cpu =
    let events = declared_events s.past in
    let row = λ (r : CpuReading). row_of events r.lost r.rec in
    let readings = cpu_readings g.config.pages g.config.page_bytes (rings g.config (owner_name (scene_of g s) owner) s.past) cpu in
    let next = next_rows g s owner cpu in
    let few = taken-few next in
    let size : (count : ℕ) → length (map row (map (on_cpu cpu) (take (min count (length readings)) readings))) ≡ min count (length readings) =
    λ count.
    let kept = take (min count (length readings)) readings in
    omega (arith, length-map (map (on_cpu cpu) kept) row, length-map kept (on_cpu cpu), length-take (min count (length readings)) readings) in
    record {
      many = omega (arith, size (next_count g s owner cpu), size 340);
      page = subst IsOnePage (next-taken g s owner cpu) (taken_are_a_page next);
      longest = λ count page.
          let many = min count (length readings) in
          let three : length (map (on_cpu cpu) (take many readings)) ≤ 340 = page_has_few_records events (map (on_cpu cpu) (take many readings)) page in
          let small : many ≤ 340 = omega (arith, length-map (take many readings) (on_cpu cpu), length-take many readings) in
          let within : many ≤ length next = omega (arith, size 340) in
          let same : min many (length readings) ≡ many = omega arith in
          let first : take many next ≡ taken_rows g s owner cpu count =
          first-rows row (on_cpu cpu) many 340 readings within ∙ ap (λ n. map row (map (on_cpu cpu) (take n readings))) same in
          let all = page_is_all next many within (subst IsOnePage (sym first) page) in
          omega (arith, size count);
    }

pub pages_take_some : PagesTakeSome
pages_take_some g s owner cpu row one few =
    let longest = (pages_take_all_that_fit g s owner cpu).longest 1 (subst IsOnePage (sym one) (row_fits row few)) in
    omega (arith, ap length one)

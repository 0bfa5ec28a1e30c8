-- The lines of a `stats` file, each put before those after it, are its text.
use Rattle.std.proofs.Common.{◌≡◌, ℕ, List, [], ◌++◌, codes, ap, ◌∙◌, append_assoc, append-nil}
use Rattle.page_ring.specs.declared.rings.RingStats.{RingStats}
use Rattle.record_text.specs.StatsText.{stats_line, stats_text}

regrouped : (a b c d e f g h : List ℕ) → a ++ (b ++ (c ++ (d ++ (e ++ (f ++ (g ++ (h ++ []))))))) ≡ a ++ b ++ c ++ d ++ e ++ f ++ g ++ h
regrouped a b c d e f g h = simp (append_assoc, append-nil)

pub lines_are_text : (stats : RingStats) (now : ℕ) (after read dropped now_line oldest bytes commit overrun entries : List ℕ) → after ≡ []
    → read ≡ stats_line (codes "read events: ") stats.read ++ after
    → dropped ≡ stats_line (codes "dropped events: ") stats.dropped ++ read
    → now_line ≡ stats_line (codes "now ts: ") now ++ dropped
    → oldest ≡ stats_line (codes "oldest event ts: ") stats.oldest ++ now_line
    → bytes ≡ stats_line (codes "bytes: ") stats.bytes ++ oldest
    → commit ≡ stats_line (codes "commit overrun: ") 0 ++ bytes
    → overrun ≡ stats_line (codes "overrun: ") stats.overrun ++ commit
    → entries ≡ stats_line (codes "entries: ") stats.entries ++ overrun
    → entries ≡ stats_text stats now
unfolding stats_text
lines_are_text stats now after read dropped now_line oldest bytes commit overrun entries none line_8 line_7 line_6 line_5 line_4 line_3 line_2 line_1 =
    line_1
    ∙ ap (λ t. stats_line (codes "entries: ") stats.entries ++ t) (line_2
    ∙ ap (λ t. stats_line (codes "overrun: ") stats.overrun ++ t) (line_3
    ∙ ap (λ t. stats_line (codes "commit overrun: ") 0 ++ t) (line_4
    ∙ ap (λ t. stats_line (codes "bytes: ") stats.bytes ++ t) (line_5
    ∙ ap (λ t. stats_line (codes "oldest event ts: ") stats.oldest ++ t) (line_6
    ∙ ap (λ t. stats_line (codes "now ts: ") now ++ t) (line_7
    ∙ ap (λ t. stats_line (codes "dropped events: ") stats.dropped ++ t) (line_8
    ∙ ap (λ t. stats_line (codes "read events: ") stats.read ++ t) none)))))))
    ∙ regrouped (stats_line (codes "entries: ") stats.entries) (stats_line (codes "overrun: ") stats.overrun) (stats_line (codes "commit overrun: ") 0)
    (stats_line (codes "bytes: ") stats.bytes) (stats_line (codes "oldest event ts: ") stats.oldest) (stats_line (codes "now ts: ") now)
    (stats_line (codes "dropped events: ") stats.dropped) (stats_line (codes "read events: ") stats.read)

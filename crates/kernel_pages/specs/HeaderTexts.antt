-- The files of `events` that say how a page is laid out, and the `format` of the event `print` that Linux has itself, as
-- `ring_buffer_print_page_header` and `ring_buffer_print_entry_header` of kernel/trace/ring_buffer.c write them on a machine of 64 bits.
use Rattle.std.specs.Prelude.{ℕ, List, ◌++◌, codes}

-- `header_page`: where the time, the commit and the events of a page are
unfoldable pub header_page : List ℕ
header_page =
    codes "\tfield: u64 timestamp;\toffset:0;\tsize:8;\tsigned:0;\n"
    ++ codes "\tfield: local_t commit;\toffset:8;\tsize:8;\tsigned:1;\n"
    ++ codes "\tfield: int overwrite;\toffset:8;\tsize:1;\tsigned:1;\n"
    ++ codes "\tfield: char data;\toffset:16;\tsize:4080;\tsigned:0;\n"

-- `header_event`: the parts of an event's first word, and what its `type_len` says
unfoldable pub header_event : List ℕ
header_event =
    codes "# compressed entry header\n"
    ++ codes "\ttype_len    :    5 bits\n"
    ++ codes "\ttime_delta  :   27 bits\n"
    ++ codes "\tarray       :   32 bits\n"
    ++ codes "\n"
    ++ codes "\tpadding     : type == 29\n"
    ++ codes "\ttime_extend : type == 30\n"
    ++ codes "\ttime_stamp : type == 31\n"
    ++ codes "\tdata max type_len  == 28\n"

-- `ftrace/print/format`
unfoldable pub print_format : List ℕ
print_format =
    codes "name: print\nID: 5\nformat:\n"
    ++ codes "\tfield:unsigned short common_type;\toffset:0;\tsize:2;\tsigned:0;\n"
    ++ codes "\tfield:unsigned char common_flags;\toffset:2;\tsize:1;\tsigned:0;\n"
    ++ codes "\tfield:unsigned char common_preempt_count;\toffset:3;\tsize:1;\tsigned:0;\n"
    ++ codes "\tfield:int common_pid;\toffset:4;\tsize:4;\tsigned:1;\n"
    ++ codes "\n"
    ++ codes "\tfield:unsigned long ip;\toffset:8;\tsize:8;\tsigned:0;\n"
    ++ codes "\tfield:char buf[];\toffset:16;\tsize:0;\tsigned:0;\n"
    ++ codes "\n"
    ++ codes "print fmt: \"%ps: %s\", (void *)REC->ip, REC->buf\n"

-- What a command asks for, as a line.
use Rattle.std.specs.Prelude.{ℕ, pos, ◌==◌, if◌then◌else◌, Bool, true, false, List, [], ◌++◌, length, Option, None, Some, codes, decimal}
use Rattle.shop_model.specs.Values.{Text, Act, AddCustomer, SetActive, Rent, TakeBack, Pay, Import, Dispatch, Receive, Scrap, Command}
use Rattle.till_shows.specs.Money.{money_text}
use Rattle.till_shows.specs.Numbers.{commas}
use Rattle.till_shows.specs.Times.{moment_text}

abbrev pub not_text : Bool → Text
not_text true = []
not_text false = codes "not "

abbrev pub payment_text : ℕ → Option ℕ → ℕ → Text
payment_text customer None amount = codes "pay: customer " ++ (decimal customer ++ (codes ", " ++ money_text (pos amount)))
payment_text customer (Some rental) amount =
    codes "pay: customer " ++ (decimal customer ++ (codes ", " ++ (money_text (pos amount) ++ (codes ", rental " ++ decimal rental))))

abbrev pub dispatch_text : ℕ → List ℕ → Text
dispatch_text to copies = codes "dispatch: branch " ++ (decimal to ++ (codes ", copies " ++ commas copies))

-- the missing lines are added if there are any
abbrev pub receipt_text : ℕ → ℕ → List ℕ → Text
receipt_text source number missing =
    if length missing == 0 then codes "receive: branch " ++ (decimal source ++ (codes ", consignment " ++ decimal number))
    else codes "receive: branch " ++ (decimal source ++ (codes ", consignment " ++ (decimal number ++ (codes ", missing " ++ commas missing))))

abbrev pub act_text : Act → Text
act_text (AddCustomer it) = codes "customer: " ++ (it.person.first ++ (codes " " ++ it.person.last))
act_text (SetActive customer active) = codes "active: customer " ++ (decimal customer ++ (codes " may " ++ (not_text active ++ codes "rent")))
act_text (Rent customer copy) = codes "rent: customer " ++ (decimal customer ++ (codes ", copy " ++ decimal copy))
act_text (TakeBack rental) = codes "return: rental " ++ decimal rental
act_text (Pay customer rental amount) = payment_text customer rental amount
act_text (Import lot file) = codes "import: lot " ++ lot
act_text (Dispatch to copies) = dispatch_text to copies
act_text (Receive source number missing) = receipt_text source number missing
act_text (Scrap copy) = codes "scrap: copy " ++ decimal copy

-- the command's moment is added
abbrev pub command_text : Command → Text
command_text command = act_text command.act ++ (codes " (" ++ (moment_text command.moment ++ codes ")"))

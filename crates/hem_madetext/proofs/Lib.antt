mod LineFeeds
mod ProtocolBack
mod DocumentBack
mod Numbers
mod MadeBack
